-- A set that is kept as words in n layers.
-- Word p of layer l has bits for the positions 64 * p to 64 * p + 63 of that layer: in layer 0 these are indices, and
-- above it words of the layer below.
use Rattle.std.specs.Prelude.{◌≡◌, ℕ, ◌+◌, ◌-◌, ◌*◌, ◌/◌, ◌%◌, ◌^◌, ◌<◌, Bool, cond, ◌↔◌}
use Rattle.std.specs.Int.{bit_at}

-- 1 where the test holds, else 0
abbrev pub bit_of : Bool → ℕ
bit_of b = cond b 1 0

-- Layer 0 has the set's bits, and over each nonzero word, below the top layer, the bit in the layer above is set. Bits
-- over a zero word are allowed.
pub record IsLawful (n : ℕ) (holds : ℕ → Bool) (word : ℕ → ℕ → ℕ) : Type 0 where
  pub members : (p b : ℕ) → p < 64 ^ (n - 1) → b < 64 → bit_at (word 0 p) b ≡ bit_of (holds (64 * p + b))
  pub summaries : (l p : ℕ) → l + 1 < n → p < 64 ^ (n - 1 - l) → 0 < word l p → bit_at (word (l + 1) (p / 64)) (p % 64) ≡ 1

-- Summaries are exact: a bit above layer 0 is set over a nonzero word, and over no other.
pub record SummariesExact (n : ℕ) (word : ℕ → ℕ → ℕ) : Type 0 where
  pub exact : (l p b : ℕ) → l + 1 < n → p < 64 ^ (n - 2 - l) → b < 64 → (bit_at (word (l + 1) p) b ≡ 1) ↔ (0 < word l (64 * p + b))

-- the two sets hold of the same numbers
abbrev pub SameSet : (ℕ → Bool) → (ℕ → Bool) → Type 0
SameSet p q = (i : ℕ) → q i ≡ p i

-- the two sets have the same words
abbrev pub SameWords : (ℕ → ℕ → ℕ) → (ℕ → ℕ → ℕ) → Type 0
SameWords v w = (l p : ℕ) → w l p ≡ v l p

-- whatever a clone of this value may be, it is the same set
abbrev pub ClonesToSame : {T : Type 0} → (T → T → Type 0) → (T → ℕ → Bool) → T → Type 0
ClonesToSame {T} is_clone holds set = (copy : T) → is_clone set copy → SameSet (holds set) (holds copy)
