-- The last word of layer 0 that is not 0, looked for from the last bit of each layer down.
use Rattle.std.proofs.Common.{◌≡◌, ℕ, suc, ◌+◌, ◌-◌, ◌*◌, ◌/◌, ◌%◌, ◌^◌, ◌<◌, ◌≤◌, Bool, sym, ◌∙◌, ap, arith, inl, inr}
use Rattle.std.specs.Int.{bit_at}
use Rattle.std.proofs.Math.Nat.{pow-suc, div-div-eq-div-mul, div-lt_iff_lt-mul, div-mul-le_self}
use Rattle.std.proofs.lemmas.Bool.{cases_lt}
use Rattle.std.proofs.lemmas.Nat.Bits.{bit_at-lt, bit_at-zero}
use Rattle.hibitset_base.specs.Decisions.{same_or_not}
use Rattle.hibitset_base.specs.Sets.{IsLawful}
use Rattle.hibitset.proofs.MergeLemmas.{zero_or_one}

-- A place q has 64 parts of `size` words, and words may be other than 0 only under the bits of `left`, of which b is
-- the highest.
module _ (w : ℕ → ℕ) (size whole q left b end : ℕ) (whole-is : whole ≡ size * 64) where
  up : (p : ℕ) → p / size / 64 ≡ p / whole
  up p = div-div-eq-div-mul p size 64 ∙ ap (λ x. p / x) (sym whole-is)

  -- where the part under b has words, the last of them is the last of the place
  pub end_after : 0 < size → ((p : ℕ) → p / whole ≡ q → bit_at left (p / size % 64) ≡ 0 → w p ≡ 0) → ((p : ℕ) → p / size ≡ 64 * q + b → end ≤ p → w p ≡ 0)
      → ((c : ℕ) → bit_at left c ≡ 1 → c ≤ b) → 0 < end → (end - 1) / size ≡ 64 * q + b → (p : ℕ) → p / whole ≡ q → end ≤ p → w p ≡ 0
  end_after positive rest none last some here p e after = elim (same_or_not (p / size % 64) b) [
    | inl is ↦ (let u = up p in none p (omega (arith, u, e, is)) after)
    | inr other ↦ elim (cases_lt b (p / size % 64)) [
      | inl later ↦ elim (zero_or_one (bit_at left (p / size % 64)) (bit_at-lt left (p / size % 64))) [
        | inl off ↦ rest p e off
        | inr on ↦ absurd (let h = last (p / size % 64) on in omega (arith, h, later))
      ]
      | inr upto ↦ absurd (
          let u = up p in
          let lower : p / size < (end - 1) / size = omega (arith, u, e, here, other, upto) in
          let before : p < (end - 1) / size * size = (div-lt_iff_lt-mul positive).0 lower in
          let h = div-mul-le_self (end - 1) size in
          omega (arith, before, h, after, some))
    ]
  ]

  pub last_after : b < 64 → (end - 1) / size ≡ 64 * q + b → (end - 1) / whole ≡ q
  last_after small here = let u = up (end - 1) in omega (arith, u, small, here)

-- Where the words of a layer have no bit for a place on, the layer below has no words from there on.
pub end_below : (n layer end from : ℕ) (holds : ℕ → Bool) (w : ℕ → ℕ → ℕ) → IsLawful n holds w → 0 < layer → layer < n → ((p : ℕ) → p < 64 ^ (n - 1 - layer) → end ≤ p → w layer p ≡ 0)
    → ((p b : ℕ) → p < end → b < 64 → bit_at (w layer p) b ≡ 1 → 64 * p + b < from) → (p : ℕ) → p < 64 ^ (n - layer) → from ≤ p → w (layer - 1) p ≡ 0
end_below n layer end from holds w lawful some within none covers p range after = elim (cases_lt 0 (w (layer - 1) p)) [
  | inl word ↦ absurd (
      let above : layer - 1 + 1 ≡ layer = omega (arith, some) in
      let size : n - 1 - (layer - 1) ≡ n - layer = omega (arith, some, within) in
      let step : 64 ^ (n - layer) ≡ 64 ^ (n - 1 - layer) * 64 = (let s : n - layer ≡ suc (n - 1 - layer) = omega (arith, within) in ap (λ x. 64 ^ x) s ∙ pow-suc 64 (n - 1 - layer)) in
      let on = lawful.summaries (layer - 1) p (omega (arith, some, within)) (rw size range) word in
      let on_here : bit_at (w layer (p / 64)) (p % 64) ≡ 1 = rw above at on in
      elim (cases_lt (p / 64) end) [
        | inl before ↦ (let h = covers (p / 64) (p % 64) before (omega arith) on_here in omega (arith, h, after))
        | inr past ↦ (
            let zero_word : w layer (p / 64) ≡ 0 = none (p / 64) (omega (arith, step, range)) past in
            let off = bit_at-zero (p % 64) in
            let wrong = rw zero_word at on_here in
            omega (arith, off, wrong))
      ])
  | inr z ↦ omega (arith, z)
]
