use Rattle.std.proofs.Common.{◌≡◌, ◌+◌, ◌∷◌, slice_index, sum_by, arith}
use Rattle.std.proofs.lemmas.List.Sums.{sum_by-cons}
use Rattle.hibitset.specs.Prelude.{items_left, has}
use Rattle.uses.specs.Weights.{weight_of_both, both}
use Rattle.uses.proofs.WeightLemmas.{weight_fits, items_fit}
use Rattle.uses.proofs.weights.weight_here.Goals as goal

pub overflow_add-total : goal.overflow_add-total
overflow_add-total c =
    let w = slice_index c.args.weights.now in
    let fits = weight_fits c.args.weights.now (has c.args.a.now) (has c.args.b.now) (items_fit c.args.weights.now c.type_inv.weights) in
    let item : items_left both c.loop-index.index-iterator ≡ c.in-Some.index ∷ items_left both c.next.new.self = c.in-Some.ensures.steps.0 in
    let so_far : c.loop-index.total + sum_by w (c.in-Some.index ∷ items_left both c.next.new.self) ≡ weight_of_both c.args.weights.now (has c.args.a.now) (has c.args.b.now) = rw item at c.loop-index.invariant in
    let cons = sum_by-cons w c.in-Some.index (items_left both c.next.new.self) in
    omega (arith, c.weight-total.ensures)
