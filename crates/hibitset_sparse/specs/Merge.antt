-- What chunks are made of where two are put together.
use Rattle.std.specs.Prelude.{◌≡◌, ℕ, zero, suc, ◌+◌, ◌%◌, ◌<◌, ◌==◌, ◌||◌, Bool, false, bit_or, bit_xor, max, refl}
use Rattle.std.specs.Int.{bit_at}
use Rattle.std.proofs.Common.{◌∙◌, ap, arith}
use Rattle.std.proofs.lemmas.Nat.Bits.{bit_at-lt, bit_at_or, bit_at_xor}
use Rattle.hibitset_base.specs.Virtual.{differ}
use Rattle.hibitset_sparse.specs.Rank.{bit_is_set}

-- The bits of a word are those of two sets put together by a test, from one index on.
abbrev pub IsWordOf : (Bool → Bool → Bool) → (ℕ → Bool) → (ℕ → Bool) → ℕ → ℕ → Type 0
IsWordOf test own other start word = (b : ℕ) → b < 64 → bit_is_set word b ≡ test (own (start + b)) (other (start + b))

-- Where a bit of the result is clear, the test gives false of whatever lies under that bit of the two words.
abbrev pub CoversTest : (Bool → Bool → Bool) → ℕ → ℕ → ℕ → Type 0
CoversTest test own other result = (q : ℕ) (a b : Bool) → q < 64 → bit_at result q ≡ 0 → (bit_at own q ≡ 0 → a ≡ false) → (bit_at other q ≡ 0 → b ≡ false)
    → test a b ≡ false

either_is_one : (x y : ℕ) → x < 2 → y < 2 → (max x y == 1) ≡ ((x == 1) || (y == 1))
either_is_one zero zero a b = refl
either_is_one zero (suc zero) a b = refl
either_is_one (suc zero) zero a b = refl
either_is_one (suc zero) (suc zero) a b = refl
either_is_one (suc (suc x)) y a b = absurd (omega arith)
either_is_one zero (suc (suc y)) a b = absurd (omega arith)
either_is_one (suc zero) (suc (suc y)) a b = absurd (omega arith)

-- the bits of a word made by or
pub or_bits : (v w b : ℕ) → bit_is_set (bit_or v w) b ≡ (bit_is_set v b || bit_is_set w b)
or_bits v w b = ap (λ x. x == 1) (bit_at_or v w b) ∙ either_is_one (bit_at v b) (bit_at w b) (bit_at-lt v b) (bit_at-lt w b)

one_is_one : (x y : ℕ) → x < 2 → y < 2 → ((x + y) % 2 == 1) ≡ differ (x == 1) (y == 1)
one_is_one zero zero a b = refl
one_is_one zero (suc zero) a b = refl
one_is_one (suc zero) zero a b = refl
one_is_one (suc zero) (suc zero) a b = refl
one_is_one (suc (suc x)) y a b = absurd (omega arith)
one_is_one zero (suc (suc y)) a b = absurd (omega arith)
one_is_one (suc zero) (suc (suc y)) a b = absurd (omega arith)

-- the bits of a word made by exclusive or
pub xor_bits : (v w b : ℕ) → bit_is_set (bit_xor v w) b ≡ differ (bit_is_set v b) (bit_is_set w b)
xor_bits v w b = ap (λ x. x == 1) (bit_at_xor v w b) ∙ one_is_one (bit_at v b) (bit_at w b) (bit_at-lt v b) (bit_at-lt w b)
