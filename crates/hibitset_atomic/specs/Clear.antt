-- Four layers of words that are cleared from the top down.
use Rattle.std.specs.Prelude.{◌≡◌, ◌≢◌, ℕ, ◌/◌, ◌%◌, ◌<◌}
use Rattle.std.specs.Int.{bit_at}

-- Over each word of layers 0 and 1 that is not 0 there is its bit, or at least a nonzero word.
pub record IsCovered (word : ℕ → ℕ → ℕ) : Type 0 where
  pub layer1 : (k : ℕ) → 0 < word 1 k → bit_at (word 2 (k / 64)) (k % 64) ≡ 1
  pub layer0 : (p : ℕ) → 0 < word 0 p → 0 < word 1 (p / 64)

-- the word q of layer 2 is 0, and so are all words under it
pub record IsClearUnder (word : ℕ → ℕ → ℕ) (q : ℕ) : Type 0 where
  pub layer2 : word 2 q ≡ 0
  pub layer1 : (k : ℕ) → k / 64 ≡ q → word 1 k ≡ 0
  pub layer0 : (p : ℕ) → p / 64 / 64 ≡ q → word 0 p ≡ 0

-- the words that are neither the word q of layer 2 nor under it are the same
pub record IsSameBeside (old new : ℕ → ℕ → ℕ) (q : ℕ) : Type 0 where
  pub layer2 : (k : ℕ) → k ≢ q → new 2 k ≡ old 2 k
  pub layer1 : (k : ℕ) → k / 64 ≢ q → new 1 k ≡ old 1 k
  pub layer0 : (p : ℕ) → p / 64 / 64 ≢ q → new 0 p ≡ old 0 p
