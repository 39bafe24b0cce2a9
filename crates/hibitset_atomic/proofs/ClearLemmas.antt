-- Four layers of words that are cleared from the top down.
use Rattle.std.proofs.Common.{◌≡◌, ◌≢◌, ℕ, ◌+◌, ◌*◌, ◌/◌, ◌%◌, ◌^◌, ◌<◌, sym, ◌∙◌, arith, inl, inr}
use Rattle.std.specs.Int.{bit_at}
use Rattle.std.proofs.lemmas.Bool.{cases_lt}
use Rattle.std.proofs.lemmas.Nat.Bits.{bit_at-zero, bit_at_above}
use Rattle.hibitset_base.specs.Decisions.{same_or_not}
use Rattle.hibitset_base.specs.Words.{SummariesExactEverywhere}
use Rattle.hibitset_atomic.specs.Clear.{IsCovered, IsClearUnder, IsSameBeside}
use Rattle.hibitset_atomic.proofs.RestLemmas.{some_of_bit}

zero_if : (x : ℕ) → (0 < x → ⊥) → x ≡ 0
zero_if x none = elim (same_or_not x 0) [ inl e ↦ e | inr other ↦ absurd (none (omega arith)) ]

none_below : (w : ℕ → ℕ → ℕ) (q : ℕ) → IsCovered w → w 2 q ≡ 0 → (k : ℕ) → k / 64 ≡ q → w 1 k ≡ 0
none_below w q covered none k at = zero_if (w 1 k) (λ some. let bit = covered.layer1 k some in let bit_here = rw at at bit in let above = some_of_bit (w 2 q) (k % 64) bit_here in omega (arith, none, above))

pub clear_if : (w : ℕ → ℕ → ℕ) (q : ℕ) → IsCovered w → w 2 q ≡ 0 → IsClearUnder w q
clear_if w q covered none = record {
  layer2 = none;
  layer1 = none_below w q covered none;
  layer0 = λ p at. zero_if (w 0 p) (λ some. let above = covered.layer0 p some in let e = none_below w q covered none (p / 64) at in omega (arith, e, above));
}

pub covered_if : (w : ℕ → ℕ → ℕ) → SummariesExactEverywhere 4 w → IsCovered w
covered_if w exact = record {
  layer1 = λ k some. (exact.summed 1 (k / 64) (k % 64) (omega arith) (omega arith)).1 (let e : 64 * (k / 64) + k % 64 ≡ k = omega arith in rw e some);
  layer0 = λ p some. some_of_bit (w 1 (p / 64)) (p % 64) ((exact.summed 0 (p / 64) (p % 64) (omega arith) (omega arith)).1 (let e : 64 * (p / 64) + p % 64 ≡ p = omega arith in rw e some));
}

-- where the bit in the top word is clear, the word of layer 2 is 0
pub none_under_top : (w : ℕ → ℕ → ℕ) (q : ℕ) → SummariesExactEverywhere 4 w → ((p : ℕ) → p ≢ 0 → w 3 p ≡ 0) → (bit_at (w 3 0) q ≡ 1 → ⊥) → w 2 q ≡ 0
none_under_top w q exact single off = zero_if (w 2 q) (λ some.
    let e : 64 * (q / 64) + q % 64 ≡ q = omega arith in
    let bit : bit_at (w 3 (q / 64)) (q % 64) ≡ 1 = (exact.summed 2 (q / 64) (q % 64) (omega arith) (omega arith)).1 (rw e some) in
    elim (same_or_not (q / 64) 0) [
      | inl first ↦
          let at : q % 64 ≡ q = omega arith in
          let here = rw (first, at) at bit in
          off here
      | inr past ↦ (let none = single (q / 64) past in let here = rw none at bit in let zero = bit_at-zero (q % 64) in omega (arith, here, zero))
    ])

-- One block more: w before, v after. `left` are the bits that are still to be visited, and `later` those after this
-- one.
module _ (w v : ℕ → ℕ → ℕ) (q bit left later : ℕ) (below : bit < 64) (same : (b : ℕ) → b < 64 → b ≢ bit → bit_at later b ≡ bit_at left b)
    (layer2 : (k : ℕ) → v 2 k ≡ w 2 k) (layer1 : v 1 (64 * q + bit) ≡ 0) (others : (k : ℕ) → k ≢ 64 * q + bit → v 1 k ≡ w 1 k)
    (inside : (p : ℕ) → p / 64 ≡ 64 * q + bit → v 0 p ≡ 0) (outside : (p : ℕ) → p / 64 ≢ 64 * q + bit → v 0 p ≡ w 0 p) where
  pub layer1_more : ((b : ℕ) → b < 64 → (bit_at left b ≡ 1 → ⊥) → w 1 (64 * q + b) ≡ 0) → (b : ℕ) → b < 64 → (bit_at later b ≡ 1 → ⊥) → v 1 (64 * q + b) ≡ 0
  layer1_more clear b small off = elim (same_or_not b bit) [
    | inl e ↦ rw e layer1
    | inr other ↦ others (64 * q + b) (λ f. other (omega arith)) ∙ clear b small (λ on. off (same b small other ∙ on))
  ]

  pub layer0_more : ((b p : ℕ) → b < 64 → (bit_at left b ≡ 1 → ⊥) → p / 64 ≡ 64 * q + b → w 0 p ≡ 0) → (b p : ℕ) → b < 64 → (bit_at later b ≡ 1 → ⊥) → p / 64 ≡ 64 * q + b → v 0 p ≡ 0
  layer0_more clear b p small off at = elim (same_or_not b bit) [
    | inl e ↦ inside p (at ∙ (let f : 64 * q + b ≡ 64 * q + bit = omega arith in f))
    | inr other ↦ outside p (λ f. other (omega arith)) ∙ clear b p small (λ on. off (same b small other ∙ on)) at
  ]

  pub beside_more : (start : ℕ → ℕ → ℕ) → IsSameBeside start w q → IsSameBeside start v q
  beside_more start beside = record {
    layer2 = λ k other. layer2 k ∙ beside.layer2 k other;
    layer1 = λ k other. others k (λ e. other (omega arith)) ∙ beside.layer1 k other;
    layer0 = λ p other. outside p (λ e. other (omega arith)) ∙ beside.layer0 p other;
  }

-- no bit is left
pub clear_done : (w : ℕ → ℕ → ℕ) (q left : ℕ) → left ≡ 0 → w 2 q ≡ 0 → ((b : ℕ) → b < 64 → (bit_at left b ≡ 1 → ⊥) → w 1 (64 * q + b) ≡ 0)
    → ((b p : ℕ) → b < 64 → (bit_at left b ≡ 1 → ⊥) → p / 64 ≡ 64 * q + b → w 0 p ≡ 0) → IsClearUnder w q
clear_done w q left none here layer1 layer0 = record {
  layer2 = here;
  layer1 = λ k at. (let e : 64 * q + k % 64 ≡ k = omega arith in let h = layer1 (k % 64) (omega arith) (off (k % 64)) in rw e at h);
  layer0 = λ p at. layer0 (p / 64 % 64) p (omega arith) (off (p / 64 % 64)) (omega arith);
}
  where
    off : (b : ℕ) → bit_at left b ≡ 1 → ⊥
    off b on = let zero : bit_at left b ≡ 0 = rw none (bit_at-zero b) in omega (arith, on, zero)

-- One word of layer 2 more, and all under it.
module _ (w v : ℕ → ℕ → ℕ) (q : ℕ) (inside : IsClearUnder v q) (outside : IsSameBeside w v q) where
  pub covered_more : IsCovered w → IsCovered v
  covered_more covered = record {
    layer1 = λ k some. elim (same_or_not (k / 64) q) [
      | inl e ↦ absurd (let none = inside.layer1 k e in omega (arith, none, some))
      | inr other ↦ (let e = outside.layer1 k other in let some_here = rw e at some in rw (outside.layer2 (k / 64) other) (covered.layer1 k some_here))
    ];
    layer0 = λ p some. elim (same_or_not (p / 64 / 64) q) [
      | inl e ↦ absurd (let none = inside.layer0 p e in omega (arith, none, some))
      | inr other ↦ (let e = outside.layer0 p other in let some_here = rw e at some in rw (outside.layer1 (p / 64) other) (covered.layer0 p some_here))
    ];
  }

  pub clear_more : (left later : ℕ) → left < 2 ^ 64 → ((b : ℕ) → b < 64 → b ≢ q → bit_at later b ≡ bit_at left b) → ((k : ℕ) → (bit_at left k ≡ 1 → ⊥) → IsClearUnder w k) → (k : ℕ) → (bit_at later k ≡ 1 → ⊥) → IsClearUnder v k
  clear_more left later fits same clear k off = elim (same_or_not k q) [
    | inl e ↦ rw e inside
    | inr other ↦
        let was : bit_at left k ≡ 1 → ⊥ = elim (cases_lt k 64) [
          | inl small ↦ λ on. off (same k small other ∙ on)
          | inr past ↦ λ on. (let zero = bit_at_above left 64 k fits past in omega (arith, on, zero))
        ] in
        let old = clear k was in
        record {
          layer2 = outside.layer2 k other ∙ old.layer2;
          layer1 = λ j at. outside.layer1 j (λ e. other (sym at ∙ e)) ∙ old.layer1 j at;
          layer0 = λ p at. outside.layer0 p (λ e. other (sym at ∙ e)) ∙ old.layer0 p at;
        }
  ]
