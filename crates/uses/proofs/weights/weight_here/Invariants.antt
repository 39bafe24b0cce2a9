use Rattle.std.proofs.Common.{◌≡◌, ◌+◌, slice_index, sum_by}
use Rattle.hibitset.specs.Prelude.{items_left, has}
use Rattle.uses.specs.Weights.{weight_of_both, both}
use Rattle.uses.proofs.weights.weight_here.Given as goal

-- what is added up and what is still to be added are all
abbrev pub invariant-loop-index : goal.invariant-loop-index
invariant-loop-index l = l.total + sum_by (λ i. slice_index l.weights i) (items_left both l.index-iterator) ≡ weight_of_both l.weights (has l.a) (has l.b)
