use Rattle.std.proofs.Common.{ℕ, ◌+◌, ◌-◌, ◌/◌, ◌^◌, sym, ◌∙◌, ap, arith, inl, inr}
use Rattle.std.proofs.lemmas.List.{length-set, get_or-set_same, get_or-set_other}
use Rattle.hibitset_base.specs.Decisions.{same_or_not}
use Rattle.hibitset_base.specs.declared.util.TheConstants.{LAYERS}
use Rattle.hibitset.proofs.LayerStartLemmas.{over_first, over_next, over_less, start_first, start_next, start_bound}
use Rattle.hibitset.proofs.layout.starts_over.Goals as goal

pub loop-layer-init : goal.loop-layer-init
loop-layer-init c = record { upto = omega arith; long = omega arith; words = sym (over_first c.args.room); at = sym (start_first c.args.room); starts = λ k none. absurd (omega (arith, none)) }

pub overflow_add-at : goal.overflow_add-at
overflow_add-at c =
    let h = over_less c.loop-layer.layer c.args.room in
    let k = start_bound c.loop-layer.layer c.args.room (64 ^ (LAYERS - 1)) c.requires in
    omega (arith, h, k, c.loop-layer.invariant.words, c.loop-layer.invariant.at, c.requires)

pub overflow_add-words : goal.overflow_add-words
overflow_add-words c = let h = over_less c.loop-layer.layer c.args.room in omega (arith, h, c.loop-layer.invariant.words, c.requires)

pub loop-layer-preserved : goal.loop-layer-preserved
loop-layer-preserved c =
    let h = c.loop-layer.invariant in
    let layer : ℕ = c.loop-layer.layer in
    let next = start_next layer c.args.room in
    record {
      upto = omega arith;
      long = length-set c.loop-layer.starts layer c.loop-layer.at ∙ h.long;
      words = ap (λ x. (x + 63) / 64) h.words ∙ sym (over_next layer c.args.room);
      at = omega (arith, next, h.words, h.at);
      starts = λ k upto. elim (same_or_not k layer) [
        | inl e ↦ rw e (get_or-set_same c.loop-layer.starts layer c.loop-layer.at 0 (omega (arith, h.long)) ∙ h.at)
        | inr other ↦ get_or-set_other c.loop-layer.starts layer k c.loop-layer.at 0 other ∙ h.starts k (omega (arith, upto, other))
      ];
    }
