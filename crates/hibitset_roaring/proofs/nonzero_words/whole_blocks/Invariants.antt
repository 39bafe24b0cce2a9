use Rattle.std.proofs.Common.{◌≡◌, ℕ, ◌+◌, ◌*◌, ◌<◌, ◌==◌, ◌&&◌, get_or}
use Rattle.std.specs.Prelude.{nat_lt}
use Rattle.std.specs.Int.{bit_at}
use Rattle.hibitset_roaring.proofs.nonzero_words.whole_blocks.Given as goal

-- the bits of the first b words are set
abbrev pub invariant-words : goal.invariant-words
invariant-words l = (i : ℕ) → i < 64 → (bit_at l.blocks i == 1) ≡ (nat_lt i l.b && nat_lt 0 (get_or l.above (16 * l.key + i) 0))
