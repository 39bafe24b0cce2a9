-- Whether the bit of a number is set in a list of words, and words in which the bits of a range were set or cleared.
use Rattle.std.specs.Prelude.{◌≡◌, ℕ, ◌+◌, ◌*◌, ◌/◌, ◌%◌, ◌<◌, ◌↔◌, Bool, true, false, ◌==◌, if◌then◌else◌, List, get_or}
use Rattle.std.specs.Int.{bit_at}
use Rattle.hibitset_base.specs.Sets.{bit_of}
pub use Rattle.hibitset_base.specs.Ranges.{in_range}

-- the bit of the number is set in these words of layer 0
abbrev pub stands_in : List ℕ → ℕ → Bool
stands_in words i = bit_at (get_or words (i / 64) 0) (i % 64) == 1

-- The bits at the positions of a range are set in the new words of a layer, or are clear, and the others are the old
-- ones.
pub record PutsRange (stands : Bool) (from to : ℕ) (old new : ℕ → ℕ) : Type 0 where
  pub bits : (p b : ℕ) → b < 64 → bit_at (new p) b ≡ (if in_range from to (64 * p + b) then bit_of stands else bit_at (old p) b)

-- Summaries are exact but for those at the positions of a range of layer k, which lie over zero words.
pub record SummariesExactOutside (n : ℕ) (word : ℕ → ℕ → ℕ) (k from to : ℕ) : Type 0 where
  pub off : (l p b : ℕ) → l + 1 < n → b < 64 → (l + 1 ≡ k → in_range from to (64 * p + b) ≡ false) → (bit_at (word (l + 1) p) b ≡ 1) ↔ (0 < word l (64 * p + b))
  pub none : (l q : ℕ) → l + 1 ≡ k → in_range from to q ≡ true → word l q ≡ 0
