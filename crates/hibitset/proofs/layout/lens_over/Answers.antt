use Rattle.std.proofs.Common.{ℕ, ◌+◌, ◌/◌, sym, ◌∙◌, ap, arith, inl, inr}
use Rattle.std.proofs.lemmas.List.{length-set, get_or-set_same, get_or-set_other}
use Rattle.hibitset_base.specs.Decisions.{same_or_not}
use Rattle.hibitset.proofs.LayerStartLemmas.{over_first, over_next, over_less}
use Rattle.hibitset.proofs.layout.lens_over.Goals as goal

pub loop-layer-init : goal.loop-layer-init
loop-layer-init c = record { upto = omega arith; long = omega arith; words = sym (over_first c.args.len); lens = λ k none. absurd (omega (arith, none)) }

pub overflow_add-words : goal.overflow_add-words
overflow_add-words c = let h = over_less c.loop-layer.layer c.args.len in omega (arith, h, c.loop-layer.invariant.words, c.requires)

pub loop-layer-preserved : goal.loop-layer-preserved
loop-layer-preserved c =
    let h = c.loop-layer.invariant in
    let layer : ℕ = c.loop-layer.layer in
    record {
      upto = omega arith;
      long = length-set c.loop-layer.lens layer c.loop-layer.words ∙ h.long;
      words = ap (λ x. (x + 63) / 64) h.words ∙ sym (over_next layer c.args.len);
      lens = λ k upto. elim (same_or_not k layer) [
        | inl e ↦ rw e (get_or-set_same c.loop-layer.lens layer c.loop-layer.words 0 (omega (arith, h.long)) ∙ h.words)
        | inr other ↦ get_or-set_other c.loop-layer.lens layer k c.loop-layer.words 0 other ∙ h.lens k (omega (arith, upto, other))
      ];
    }
