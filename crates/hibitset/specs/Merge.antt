-- The words of layer 0 of two sets, put together.
use Rattle.std.specs.Prelude.{◌≡◌, ◌≢◌, ℕ, ◌+◌, ◌-◌, ◌*◌, ◌/◌, ◌%◌, ◌^◌, ◌<◌, ◌≤◌, ◌↔◌, List, take, get_or}
use Rattle.std.specs.Int.{bit_at}
use Rattle.hibitset_base.specs.declared.util.TheConstants.{LAYERS}

-- the words of a list, of which so many count
abbrev pub prefix_word : ℕ → List ℕ → ℕ → ℕ
prefix_word len words p = get_or (take len words) p 0

-- each is a word
abbrev pub AreWords : (ℕ → ℕ) → Type 0
AreWords words = (p : ℕ) → words p < 2 ^ 64

-- The new words are the old ones merged with theirs at place q, where a place has `size` words, and the old ones
-- elsewhere.
pub record MergedUnder (merged : ℕ → ℕ → ℕ) (theirs old new : ℕ → ℕ) (size q : ℕ) : Type 0 where
  pub inside : (p : ℕ) → p / size ≡ q → new p ≡ merged (old p) (theirs p)
  pub outside : (p : ℕ) → p / size ≢ q → new p ≡ old p

-- The same at those of the 64 places from 64 * q on whose bits are set.
pub record MergedAt (merged : ℕ → ℕ → ℕ) (theirs old new : ℕ → ℕ) (size q bits : ℕ) : Type 0 where
  pub inside : (p : ℕ) → p / size / 64 ≡ q → bit_at bits (p / size % 64) ≡ 1 → new p ≡ merged (old p) (theirs p)
  pub kept : (p : ℕ) → p / size / 64 ≡ q → bit_at bits (p / size % 64) ≡ 0 → new p ≡ old p
  pub outside : (p : ℕ) → p / size / 64 ≢ q → new p ≡ old p

-- The bits of a summary word at place q are set over the nonzero words.
pub record Summarizes (words : ℕ → ℕ) (q summary : ℕ) : Type 0 where
  pub bits : (b : ℕ) → b < 64 → (bit_at summary b ≡ 1) ↔ (0 < words (64 * q + b))

-- Each of the 64 words from 64 * q on that is not 0 has its bit; bits over zero words are allowed.
pub record Covers (words : ℕ → ℕ) (q summary : ℕ) : Type 0 where
  pub bits : (b : ℕ) → b < 64 → 0 < words (64 * q + b) → bit_at summary b ≡ 1

-- a set with these words has none in layer 0 from `end` on but zero words
abbrev pub NoWordsFrom : (ℕ → ℕ → ℕ) → ℕ → Type 0
NoWordsFrom word end = (p : ℕ) → p < 64 ^ (LAYERS - 1) → end ≤ p → word 0 p ≡ 0
