-- Exact summaries, said of indices: a bit of a layer is set exactly where some index under it is in the set.
use Rattle.std.proofs.Common.{◌≡◌, ℕ, zero, suc, ◌+◌, ◌*◌, ◌/◌, ◌%◌, ◌^◌, ◌<◌, true, sym, ◌∙◌, ap, arith, inl, inr, w64}
use Rattle.std.specs.Int.{bit_at, trailing_zeros}
use Rattle.std.proofs.lemmas.Nat.Bits.{bit_at-zero, bit_at-trailing_zeros}
use Rattle.hibitset_base.specs.Decisions.{same_or_not}
use Rattle.hibitset_base.specs.Words.{SummariesExactEverywhere, holds_at}
use Rattle.hibitset_base.proofs.SummaryUpdateLemmas.{way_up}
use Rattle.hibitset_base.proofs.DescentLemmas.{one_of}
use Rattle.hibitset_base.proofs.PlaceLemmas.{eq_one}

-- the bit q of layer l is set
abbrev pub Stands : (ℕ → ℕ → ℕ) → ℕ → ℕ → Type 0
Stands w l q = bit_at (w l (q / 64)) (q % 64) ≡ 1

pub record StandsOver (n : ℕ) (w : ℕ → ℕ → ℕ) : Type 0 where
  pub up : (l i : ℕ) → l < n → holds_at w i ≡ true → Stands w l (i / 64 ^ l)
  pub down : (l q : ℕ) → l < n → Stands w l q → (i : ℕ) × (i / 64 ^ l ≡ q) × (holds_at w i ≡ true)

-- one layer up
pub way_up_suc : (q l : ℕ) → q / 64 ^ suc l ≡ q / 64 ^ l / 64
way_up_suc q l = let next : suc l ≡ l + 1 = omega arith in rw next (way_up q l)

pub some_of_bit : (x b : ℕ) → bit_at x b ≡ 1 → 0 < x
some_of_bit x b stands = elim (same_or_not x 0) [
  | inl e ↦ absurd (let none : bit_at x b ≡ 0 = rw e (bit_at-zero b) in omega (arith, none, stands))
  | inr some ↦ omega arith
]

-- a bit under a nonzero word
bit_under : (w : ℕ → ℕ → ℕ) (l q : ℕ) → w l q < 2 ^ 64 → 0 < w l q → (b : ℕ) × (b < 64) × Stands w l (64 * q + b)
bit_under w l q fits some =
    let t = bit_at-trailing_zeros w64 (w l q) some fits in
    let b : ℕ = trailing_zeros w64 (w l q) in
    let small : b < 64 = t.0 in
    let at : (64 * q + b) / 64 ≡ q = omega arith in
    let bit : (64 * q + b) % 64 ≡ b = omega arith in
    (b, small, rw (at, bit) t.1)

module _ (n : ℕ) (w : ℕ → ℕ → ℕ) (fits : (l p : ℕ) → w l p < 2 ^ 64) where
  module _ (exact : SummariesExactEverywhere n w) where
    over : (l i : ℕ) → l < n → holds_at w i ≡ true → Stands w l (i / 64 ^ l)
    over zero i below holds = let one : i / 64 ^ 0 ≡ i = omega arith in rw one (one_of (bit_at (w 0 (i / 64)) (i % 64)) holds)
    over (suc l) i below holds =
        let lower = over l i (omega arith) holds in
        let q : ℕ = i / 64 ^ l / 64 in
        let some : 0 < w l q = some_of_bit (w l q) (i / 64 ^ l % 64) lower in
        let q-is : 64 * (q / 64) + q % 64 ≡ q = omega arith in
        let sum = exact.summed l (q / 64) (q % 64) (omega arith) (omega arith) in
        let sum_here = rw q-is at sum in
        let next : l + 1 ≡ suc l = omega arith in
        let stands = sum_here.1 some in
        let stands_next = rw next at stands in
        rw (way_up_suc i l) stands_next

    under : (l q : ℕ) → l < n → Stands w l q → (i : ℕ) × (i / 64 ^ l ≡ q) × (holds_at w i ≡ true)
    under zero q below stands = (q, omega arith, eq_one (bit_at (w 0 (q / 64)) (q % 64)) stands)
    under (suc l) q below stands =
        let q-is : 64 * (q / 64) + q % 64 ≡ q = omega arith in
        let next : l + 1 ≡ suc l = omega arith in
        let sum = exact.summed l (q / 64) (q % 64) (omega arith) (omega arith) in
        let sum_here = rw q-is at sum in
        let here : Stands w (l + 1) q = rw next stands in
        let t = bit_under w l q (fits l q) (sum_here.0 here) in
        let lower = under l (64 * q + t.0) (omega arith) t.2 in
        let up_next = way_up_suc lower.0 l in
        let bit = t.1 in
        let at = lower.1 in
        (lower.0, up_next ∙ (ap (λ x. x / 64) at ∙ (let e : (64 * q + t.0) / 64 ≡ q = omega (arith, bit) in e)), lower.2)

    pub summed_over : StandsOver n w
    summed_over = record { up = over; down = under }

  -- At rest each bit is set exactly where an index under it does, and then summaries are exact.
  pub over_summed : StandsOver n w → SummariesExactEverywhere n w
  over_summed rests = record {
    summed = λ l p b below small.
        let place : (64 * p + b) / 64 ≡ p = omega arith in
        let bit : (64 * p + b) % 64 ≡ b = omega arith in (
          λ stands.
              let here : Stands w (l + 1) (64 * p + b) = rw (place, bit) stands in
              let f = rests.down (l + 1) (64 * p + b) below here in
              let lower = rests.up l f.0 (omega arith) f.2 in
              let at : f.0 / 64 ^ l / 64 ≡ 64 * p + b = sym (way_up f.0 l) ∙ f.1 in
              let lower_here = rw at at lower in
              some_of_bit (w l (64 * p + b)) (f.0 / 64 ^ l % 64) lower_here,
          λ some.
              let t = bit_under w l (64 * p + b) (fits l (64 * p + b)) some in
              let f = rests.down l (64 * (64 * p + b) + t.0) (omega arith) t.2 in
              let upper = rests.up (l + 1) f.0 below f.2 in
              let c = t.1 in
              let lower = f.1 in
              let at : f.0 / 64 ^ (l + 1) ≡ 64 * p + b = way_up f.0 l ∙ (ap (λ x. x / 64) lower ∙ (let e : (64 * (64 * p + b) + t.0) / 64 ≡ 64 * p + b = omega (arith, c) in e)) in
              let upper_here = rw at at upper in
              rw (place, bit) at upper_here,
        );
  }
