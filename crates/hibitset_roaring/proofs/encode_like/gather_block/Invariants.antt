use Rattle.std.proofs.Common.{◌≡◌, ℕ, ◌+◌, ◌*◌, ◌<◌, ◌≤◌, get_or}
use Rattle.std.specs.Int.{bit_at}
use Rattle.hibitset_roaring.specs.Sources.{word_at}
use Rattle.hibitset_roaring.proofs.encode_like.gather_block.Given as goal

-- the words under bits that are not left are gathered
abbrev pub invariant-places : goal.invariant-places
invariant-places g l = record {
  here : (b : ℕ) → b < 64 → bit_at l.places b ≡ 0 → get_or l.words (l.base + b) 0 ≡ word_at (g.T.BitSetLike.word l.set) (64 * l.position + b);
  before : (q : ℕ) → q < l.base → get_or l.words q 0 ≡ get_or l.fn.words q 0;
  after : (q : ℕ) → l.base + 64 ≤ q → get_or l.words q 0 ≡ get_or l.fn.words q 0;
}

abbrev pub decreases-places : goal.decreases-places
decreases-places g l = l.places
