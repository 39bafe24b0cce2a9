-- The words of a set that keeps them, in n layers from the lowest up.
use Rattle.std.specs.Prelude.{◌≡◌, ℕ, ◌+◌, ◌-◌, ◌*◌, ◌/◌, ◌%◌, ◌^◌, ◌<◌, ◌≤◌, Bool, ◌==◌, ◌↔◌, List, [], get_or, length}
use Rattle.std.specs.Int.{bit_at}

-- the word of a layer at a position, which is 0 past the layer's end
abbrev pub word_at : List (List ℕ) → ℕ → ℕ → ℕ
word_at layers l p = get_or (get_or layers l []) p 0

-- the bit of a number is set in layer 0
abbrev pub holds_at : (ℕ → ℕ → ℕ) → ℕ → Bool
holds_at word i = bit_at (word 0 (i / 64)) (i % 64) == 1

-- A bit above layer 0 is set over a nonzero word, and over no other. With zero words past their layer's end this may be
-- said of every position.
pub record SummariesExactEverywhere (n : ℕ) (word : ℕ → ℕ → ℕ) : Type 0 where
  pub summed : (l p b : ℕ) → l + 1 < n → b < 64 → (bit_at (word (l + 1) p) b ≡ 1) ↔ (0 < word l (64 * p + b))

-- The layers hold words, none is longer than it may be, and each covers the one below.
pub record IsShaped (n : ℕ) (layers : List (List ℕ)) : Type 0 where
  pub words : (l p : ℕ) → word_at layers l p < 2 ^ 64
  pub short : (l : ℕ) → l < n → length (get_or layers l []) ≤ 64 ^ (n - 1 - l)
  pub covered : (l : ℕ) → l + 2 < n → length (get_or layers l []) ≤ 64 * length (get_or layers (l + 1) [])
