use Rattle.std.proofs.Common.{refl, sym, ◌∙◌, ap}
use Rattle.std.specs.Prelude.{slice_get}
use Rattle.hibitset_base.proofs.RankLemmas.{at_first, at_later}
use Rattle.hibitset_sparse.specs.Walk.{items_left}
use Rattle.hibitset_sparse.proofs.select.nth_of_walk.Goals as goal

pub returns-then-left-eq0 : goal.returns-then-left-eq0
returns-then-left-eq0 c = at_first _ _ _ c.items.left c.in-Some.ensures.steps c.if-left-eq0.true ∙ c.items.invariant

pub items-preserved : goal.items-preserved
items-preserved c = at_later _ _ _ c.items.left c.in-Some.ensures.steps c.if-left-eq0.false ∙ c.items.invariant

pub returns : goal.returns
returns c = sym (ap (λ xs. slice_get xs c.items.left) c.in_default.ensures.steps.0) ∙ c.items.invariant
