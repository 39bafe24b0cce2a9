use Rattle.std.proofs.Common.{◌≡◌, ℕ, ◌+◌, ◌*◌, ◌<◌, ◌≤◌, get_or, length}
use Rattle.hibitset_roaring.specs.Numbers.{u64_at, ones_in}
use Rattle.hibitset_roaring.proofs.decode_container.append_bits.Given as goal

-- so many blocks are behind the words that were there
abbrev pub invariant-parts : goal.invariant-parts
invariant-parts l = record {
  long : length l.words.items ≡ length l.fn.words.items + 64 * l.block;
  before : (p : ℕ) → p < length l.fn.words.items → get_or l.words.items p 0 ≡ get_or l.fn.words.items p 0;
  here : (q : ℕ) → q < 64 * l.block → get_or l.words.items (length l.fn.words.items + q) 0 ≡ u64_at l.bytes (l.at + 8 * q);
  count : l.ones ≡ ones_in l.bytes l.at (64 * l.block);
  few : l.ones ≤ 4096 * l.block;
}
