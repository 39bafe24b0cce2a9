-- A set that keeps its words has exact summaries, and so it is lawful.
use Rattle.std.specs.Prelude.{◌≡◌, ℕ, zero, suc, ◌+◌, ◌*◌, ◌/◌, ◌%◌, ◌<◌, ◌==◌, refl}
use Rattle.std.specs.Int.{bit_at}
use Rattle.std.proofs.Common.{arith}
use Rattle.std.proofs.lemmas.Nat.Bits.{bit_at-lt}
use Rattle.hibitset_base.specs.Sets.{IsLawful, SummariesExact, bit_of}
use Rattle.hibitset_base.specs.Words.{SummariesExactEverywhere, holds_at}

test_of : (x : ℕ) → x < 2 → x ≡ bit_of (x == 1)
test_of zero below = refl
test_of (suc zero) below = refl
test_of (suc (suc x)) below = absurd (omega arith)

pub summed_lawful : (n : ℕ) {w : ℕ → ℕ → ℕ} → SummariesExactEverywhere n w → IsLawful n (holds_at w) w
summed_lawful n {w} exact = record {
  members = λ p b within small.
      let q-is : (64 * p + b) / 64 ≡ p = omega arith in
      let b-is : (64 * p + b) % 64 ≡ b = omega arith in
      rw (q-is, b-is) (test_of (bit_at (w 0 p) b) (bit_at-lt (w 0 p) b));
  summaries = λ l p below within some.
      let p-is : 64 * (p / 64) + p % 64 ≡ p = omega arith in
      let some_here : 0 < w l (64 * (p / 64) + p % 64) = rw p-is some in
      (exact.summed l (p / 64) (p % 64) below (omega arith)).1 some_here;
}

pub summed_exact : (n : ℕ) {w : ℕ → ℕ → ℕ} → SummariesExactEverywhere n w → SummariesExact n w
summed_exact n sums = record { exact = λ l p b below within small. sums.summed l p b below small }
