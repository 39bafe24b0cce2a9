use Rattle.std.proofs.Common.{◌≡◌, ℕ, ◌+◌, ◌*◌, ◌<◌, ◌≤◌, get_or, length}
use Rattle.hibitset_roaring.specs.Numbers.{u64_at, ones_in}
use Rattle.hibitset_roaring.proofs.decode_container.append_block.Given as goal

-- so many words are in the block, and their bits are counted
abbrev pub invariant-words : goal.invariant-words
invariant-words l = record {
  count : (from n : ℕ) → from + 8 * n ≡ l.at → ones_in l.bytes from (n + l.j) ≡ ones_in l.bytes from n + l.ones;
  long : length l.block ≡ 64;
  few : l.ones ≤ 64 * l.j;
  same : (q : ℕ) → q < l.j → get_or l.block q 0 ≡ u64_at l.bytes (l.at + 8 * q);
}
