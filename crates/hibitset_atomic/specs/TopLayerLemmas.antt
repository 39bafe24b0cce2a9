-- Summaries stay exact under one layer more.
use Rattle.std.proofs.Common.{◌≡◌, ◌≢◌, ℕ, ◌+◌, ◌*◌, ◌%◌, ◌^◌, ◌<◌, Bool, true, false, ◌==◌, not, ◌↔◌, refl, ◌∙◌, ap, arith, inl, inr}
use Rattle.std.specs.Int.{bit_at}
use Rattle.std.proofs.lemmas.Nat.Bits.{bit_at-zero, bit_at_lowest, bit_at_above}
use Rattle.hibitset_base.specs.Decisions.{same_or_not, eq_same, eq_other, some_bit}
use Rattle.hibitset_base.specs.Sets.{IsLawful, SummariesExact, bit_of}
use Rattle.hibitset_base.specs.Splits.{AreWords}
use Rattle.hibitset_base.specs.Words.{SummariesExactEverywhere, holds_at}
use Rattle.hibitset_base.specs.StoredWords.{summed_lawful, summed_exact}
use Rattle.hibitset_atomic.specs.TopLayer.{with_top_layer}

one_bit : (s : Bool) → bit_of s % 2 ≡ bit_of s
one_bit true = refl
one_bit false = refl

small_bit : (s : Bool) → bit_of s < 2 ^ 1
small_bit true = omega arith
small_bit false = omega arith

-- neither stands
neither : (x y : ℕ) → x ≡ 0 → y ≡ 0 → (x ≡ 1) ↔ (0 < y)
neither x y e f = (λ h. absurd (omega arith), λ h. absurd (omega arith))

pub summed_topped : (d : ℕ) (w : ℕ → ℕ → ℕ) → SummariesExactEverywhere (d + 1) w → ((p : ℕ) → p ≢ 0 → w d p ≡ 0) → SummariesExactEverywhere (d + 2) (with_top_layer d w)
summed_topped d w exact single = record {
  summed = λ l p b below small.
      let lower : (l == d + 1) ≡ false = eq_other l (d + 1) (λ e. absurd (omega arith)) in
      elim (same_or_not l d) [
        | inl e ↦
            let upper : (l + 1 == d + 1) ≡ true = eq_same (l + 1) (d + 1) (omega arith) in
            elim (same_or_not p 0) [
              | inl first ↦
                  let at : (p == 0) ≡ true = eq_same p 0 first in
                  elim (same_or_not b 0) [
                    | inl lowest ↦
                        let place : 64 * p + b ≡ 0 = omega arith in
                        let bit : bit_at (bit_of (not (w d 0 == 0))) b ≡ bit_of (not (w d 0 == 0)) = ap (bit_at (bit_of (not (w d 0 == 0)))) lowest ∙ (bit_at_lowest (bit_of (not (w d 0 == 0))) ∙ one_bit (not (w d 0 == 0))) in
                        rw (upper, at, lower, bit, place, e) (some_bit (w d 0))
                    | inr higher ↦
                        let bit : bit_at (bit_of (not (w d 0 == 0))) b ≡ 0 = bit_at_above (bit_of (not (w d 0 == 0))) 1 b (small_bit (not (w d 0 == 0))) (omega arith) in
                        let none : w l (64 * p + b) ≡ 0 = ap (λ k. w k (64 * p + b)) e ∙ single (64 * p + b) (λ f. absurd (omega arith)) in
                        rw (upper, at, lower) (neither (bit_at (bit_of (not (w d 0 == 0))) b) (w l (64 * p + b)) bit none)
                  ]
              | inr further ↦
                  let at : (p == 0) ≡ false = eq_other p 0 further in
                  let none : w l (64 * p + b) ≡ 0 = ap (λ k. w k (64 * p + b)) e ∙ single (64 * p + b) (λ f. absurd (omega arith)) in
                  rw (upper, at, lower) (neither (bit_at 0 b) (w l (64 * p + b)) (bit_at-zero b) none)
            ]
        | inr other ↦
            let upper : (l + 1 == d + 1) ≡ false = eq_other (l + 1) (d + 1) (λ e. absurd (omega arith)) in
            rw (upper, lower) (exact.summed l p b (omega arith) small)
      ];
}

-- A set of d + 1 layers is lawful as one of d + 2.
pub topped_lawful : (d : ℕ) (w : ℕ → ℕ → ℕ) → SummariesExactEverywhere (d + 1) w → ((p : ℕ) → p ≢ 0 → w d p ≡ 0) → IsLawful (d + 2) (holds_at (with_top_layer d w)) (with_top_layer d w)
topped_lawful d w exact single = summed_lawful (d + 2) (summed_topped d w exact single)

pub topped_exact : (d : ℕ) (w : ℕ → ℕ → ℕ) → SummariesExactEverywhere (d + 1) w → ((p : ℕ) → p ≢ 0 → w d p ≡ 0) → SummariesExact (d + 2) (with_top_layer d w)
topped_exact d w exact single = summed_exact (d + 2) (summed_topped d w exact single)

bit_fits : (s : Bool) → bit_of s < 2 ^ 64
bit_fits true = omega arith
bit_fits false = omega arith

pub topped_fits : (d : ℕ) (w : ℕ → ℕ → ℕ) → AreWords w → AreWords (with_top_layer d w)
topped_fits d w fits l p = elim (same_or_not l (d + 1)) [
  | inl e ↦
      let top : (l == d + 1) ≡ true = eq_same l (d + 1) e in
      elim (same_or_not p 0) [
        | inl first ↦ (let at : (p == 0) ≡ true = eq_same p 0 first in rw (top, at) (bit_fits (not (w d 0 == 0))))
        | inr further ↦ (let at : (p == 0) ≡ false = eq_other p 0 further in rw (top, at) (omega arith))
      ]
  | inr other ↦ (let lower : (l == d + 1) ≡ false = eq_other l (d + 1) other in rw lower (fits l p))
]
