use Rattle.std.proofs.Common.{rules, ◌∙◌}
use Rattle.hibitset.specs.Prelude.{has}
use Rattle.uses.specs.Weights.{both}
use Rattle.uses.proofs.WeightLemmas.{total_of_parts, items_fit}
use Rattle.uses.proofs.weights.weight_of_both.Goals as goal

pub returns : goal.returns
returns g c =
    total_of_parts c.args.weights.now (has c.args.a.now) (has c.args.b.now) _ _ _ (λ e k. search rules) (λ a x b k. search rules) (λ a b r k. search rules)
    (both c.bitand.result) c.bitand.ensures.2 (items_fit c.args.weights.now c.type_inv.weights) _ (c.with_min_len.ensures.members both ∙ c.par_iter.ensures.members) c.fold.result c.fold.ensures
