use Rattle.std.proofs.Common.{◌≡◌, ◌≢◌, ℕ, ◌+◌, ◌-◌, ◌*◌, ◌<◌, ◌≤◌, ◌↔◌, List, get_or, refl, sym, ◌∙◌, ap, arith, lit<, inl, inr}
use Rattle.std.specs.Int.{bit_at}
use Rattle.hibitset_base.specs.Decisions.{same_or_not}
use Rattle.hibitset_base.specs.declared.util.TheConstants.{LAYERS}
use Rattle.hibitset.specs.Layers.{word_in, len_in}
use Rattle.hibitset.specs.Merge.{Summarizes}
use Rattle.hibitset.specs.declared.layers.Layers.{Layers}
use Rattle.hibitset.proofs.SummaryUpdateLemmas.{summary_same, none_past}
use Rattle.hibitset.proofs.LayerLemmas.{shaped, past_end, one_at_top}
use Rattle.hibitset.proofs.layers.Layers.sum_layers.Goals as goal

-- the summary of all words of a layer that has at most 64
top_summary : (words : ℕ → ℕ) (list : List ℕ) (p a summary : ℕ) → p ≡ 0 → a ≡ summary → ((q : ℕ) → words q ≡ get_or list q 0) → ((b : ℕ) → b < 64 → (bit_at summary b ≡ 1) ↔ (0 < get_or list b 0)) → Summarizes words p a
top_summary words list p a summary first is same bits = record {
  bits = λ b small. let at : words (64 * p + b) ≡ get_or list b 0 = same (64 * p + b) ∙ ap (λ q. get_or list q 0) (omega (arith, first)) in rw (is, at) (bits b small);
}

-- the layer below the top has at most 64 words
few_below : (x : Layers) → len_in x (LAYERS - 2) ≤ 64
few_below x = (shaped x).short (LAYERS - 2) (lit< tt)

pub loop-layer-init : goal.loop-layer-init
loop-layer-init c = record { some = omega arith; upto = omega arith; summed = λ k p below. absurd (omega (arith, below)); words = λ p. refl; lengths = λ k. refl }

pub loop-layer-preserved : goal.loop-layer-preserved
loop-layer-preserved c =
    let h = c.loop-layer.invariant in
    let layer : ℕ = c.loop-layer.layer in
    let old = c.loop-layer.self in
    let new = c.sum_layer.new.self in
    let keeps = c.sum_layer.ensures.layers in
    record {
      some = omega arith;
      upto = omega (arith, c.loop-layer-test.true);
      summed = λ k p below. elim (same_or_not (k + 1) layer) [
        | inl e ↦
            let under : k ≡ layer - 1 = omega (arith, e) in
            let other : layer - 1 ≢ layer = omega (arith, h.some) in
            summary_same (word_in new k) (word_in old (layer - 1)) p (word_in new (k + 1) p) (word_in new layer p) (λ q. ap (λ m. word_in new m q) under ∙ keeps (layer - 1) q other) (ap (λ m. word_in new m p) e) (c.sum_layer.ensures.exact p)
        | inr other ↦
            summary_same (word_in new k) (word_in old k) p (word_in new (k + 1) p) (word_in old (k + 1) p) (λ q. keeps k q (omega (arith, below))) (keeps (k + 1) p other) (h.summed k p (omega (arith, below, other)))
      ];
      words = λ p. keeps 0 p (omega (arith, h.some)) ∙ h.words p;
      lengths = λ k. c.sum_layer.ensures.lengths k ∙ h.lengths k;
    }

pub summary_of-requires : goal.summary_of-requires
summary_of-requires c = let h = few_below c.loop-layer.self in omega (arith, h, c.slice.ensures.length)

pub returns-clause-summed : goal.returns-clause-summed
returns-clause-summed c =
    let h = c.loop-layer.invariant in
    let old = c.loop-layer.self in
    let new = c.store_top.new.self in
    let all : c.loop-layer.layer ≡ LAYERS - 1 = omega (arith, h.upto, c.loop-layer-test.false) in
    let keeps = c.store_top.ensures.layers in
    record {
      summed = λ l p b below small. elim (same_or_not (l + 1) (LAYERS - 1)) [
        | inl e ↦
            let under : l ≡ LAYERS - 2 = omega (arith, e) in
            let above : word_in new (l + 1) p ≡ word_in new (LAYERS - 1) p = ap (λ m. word_in new m p) e in
            elim (same_or_not p 0) [
              | inl first ↦
                  let there : word_in new (l + 1) p ≡ c.summary_of.result = above ∙ (ap (λ q. word_in new (LAYERS - 1) q) first ∙ c.store_top.ensures.here) in
                  (top_summary (word_in new l) c.slice.result.now p (word_in new (l + 1) p) c.summary_of.result first there
                  (λ q. ap (λ m. word_in new m q) under ∙ (keeps (LAYERS - 2) q (omega arith) ∙ sym (c.slice.ensures.words q))) c.summary_of.ensures).bits b small
              | inr later ↦
                  let few = few_below new in
                  (none_past (word_in new l) p (word_in new (l + 1) p) (above ∙ one_at_top new p (omega (arith, later)))
                  (λ i within. ap (λ m. word_in new m (64 * p + i)) under ∙ past_end new (LAYERS - 2) (64 * p + i) (lit< tt) (omega (arith, few, later)))).bits b small
            ]
        | inr other ↦
            (summary_same (word_in new l) (word_in old l) p (word_in new (l + 1) p) (word_in old (l + 1) p) (λ q. keeps l q (omega (arith, below, other))) (keeps (l + 1) p other) (h.summed l p (omega (arith, below, other, all)))).bits b small
      ];
    }
