use Rattle.std.proofs.Common.{◌≡◌, ℕ, zero, suc, ◌+◌, ◌-◌, ◌*◌, ◌/◌, ◌^◌, ◌<◌, ◌≤◌, ◌↔◌, List, [], ◌∷◌, get_or, length, sym, ◌∙◌, ap, arith, lit<, inl, inr}
use Rattle.std.specs.Int.{bit_at}
use Rattle.std.proofs.lemmas.List.{get_or_past}
use Rattle.std.proofs.lemmas.Nat.Bits.{bit_at-zero}
use Rattle.hibitset_base.specs.Decisions.{same_or_not}
use Rattle.hibitset_base.specs.Words.{SummariesExactEverywhere, word_at}
use Rattle.hibitset_base.specs.declared.util.TheConstants.{LAYERS}
use Rattle.hibitset.specs.Layers.{piled, IsFitted}
use Rattle.hibitset_testing.proofs.sets.copied_by_slices.Goals as goal

-- the lengths of layers that lie one on the other
fitted_piled : (a b d e : List ℕ) (top : ℕ) → length b ≡ (length a + 63) / 64 → length d ≡ (length b + 63) / 64 → length e ≡ (length d + 63) / 64 → IsFitted LAYERS (piled a b d e top)
fitted_piled a b d e top one two three zero below = one
fitted_piled a b d e top one two three (suc zero) below = two
fitted_piled a b d e top one two three (suc (suc zero)) below = three
fitted_piled a b d e top one two three (suc (suc (suc l))) below = absurd (omega (arith, below))

pub from_layers-requires-clause-fitted : goal.from_layers-requires-clause-fitted
from_layers-requires-clause-fitted c =
    let set = c.args.set.now in
    let fits = c.slice_laws.ensures.fitted set in
    let len0 = c.layer0_as_slice.ensures.length in
    let len1 = c.layer1_as_slice.ensures.length in
    let len2 = c.layer2_as_slice.ensures.length in
    let len3 = c.layer3_as_slice.ensures.length in
    fitted_piled _ _ _ _ c.layer4.result
    (len1 ∙ (fits 0 (lit< tt) ∙ ap (λ n. (n + 63) / 64) (sym len0)))
    (len2 ∙ (fits 1 (lit< tt) ∙ ap (λ n. (n + 63) / 64) (sym len1)))
    (len3 ∙ (fits 2 (lit< tt) ∙ ap (λ n. (n + 63) / 64) (sym len2)))

-- exact summaries, of words that are given layer by layer
module _ (w : ℕ → ℕ → ℕ) (exact : SummariesExactEverywhere LAYERS w) (a b d e : List ℕ) (top : ℕ) (w0 : (p : ℕ) → get_or a p 0 ≡ w 0 p) (w1 : (p : ℕ) → get_or b p 0 ≡ w 1 p) (w2 : (p : ℕ) → get_or d p 0 ≡ w 2 p) (w3 : (p : ℕ) → get_or e p 0 ≡ w 3 p) (w4 : top ≡ w (LAYERS - 1) 0) (few : length e ≤ 64) where
  bits_over : (l p k : ℕ) → l + 1 < LAYERS → k < 64 → (bit_at (word_at (piled a b d e top) (l + 1) p) k ≡ 1) ↔ (0 < word_at (piled a b d e top) l (64 * p + k))
  bits_over zero p k below small = rw (w1 p, w0 (64 * p + k)) (exact.summed 0 p k below small)
  bits_over (suc zero) p k below small = rw (w2 p, w1 (64 * p + k)) (exact.summed 1 p k below small)
  bits_over (suc (suc zero)) p k below small = rw (w3 p, w2 (64 * p + k)) (exact.summed 2 p k below small)
  bits_over (suc (suc (suc zero))) p k below small = elim (same_or_not p 0) [
    | inl at ↦ rw (at, w4, w3 (64 * 0 + k)) (exact.summed 3 0 k below small)
    | inr other ↦
        let none : get_or (top ∷ []) p 0 ≡ 0 = get_or_past (top ∷ []) p 0 (omega (arith, other)) in
        let under : get_or e (64 * p + k) 0 ≡ 0 = get_or_past e (64 * p + k) 0 (omega (arith, few, other)) in
        (λ on. absurd (let off = ap (λ z. bit_at z k) none ∙ bit_at-zero k in omega (arith, on, off)), λ some. absurd (omega (arith, under, some)))
  ]
  bits_over (suc (suc (suc (suc l)))) p k below small = absurd (omega (arith, below))

pub from_layers-requires-clause-summed : goal.from_layers-requires-clause-summed
from_layers-requires-clause-summed c =
    let set = c.args.set.now in
    record {
      summed = bits_over _ (c.slice_laws.ensures.summed set) _ _ _ _ _ c.layer0_as_slice.ensures.words c.layer1_as_slice.ensures.words c.layer2_as_slice.ensures.words c.layer3_as_slice.ensures.words c.layer4.ensures (let h = c.layer3_as_slice.ensures.len_max in omega (arith, h));
    }
