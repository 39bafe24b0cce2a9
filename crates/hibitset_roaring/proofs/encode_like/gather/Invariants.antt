use Rattle.std.proofs.Common.{◌≡◌, ℕ, ◌+◌, ◌*◌, ◌<◌, ◌≤◌, get_or}
use Rattle.hibitset_roaring.specs.Sources.{word_at}
use Rattle.hibitset_roaring.proofs.encode_like.gather.Given as goal

-- so many blocks are gathered
abbrev pub invariant-parts : goal.invariant-parts
invariant-parts g l = record {
  done : (q : ℕ) → q < 64 * l.b → get_or l.words q 0 ≡ word_at (g.T.BitSetLike.word l.set) (1024 * l.key + q);
  rest : (q : ℕ) → 64 * l.b ≤ q → q < 1024 → get_or l.words q 0 ≡ 0;
  over : (i : ℕ) → i < l.b → get_or l.above i 0 ≡ g.T.BitSetLike.word l.set 1 (16 * l.key + i);
}
