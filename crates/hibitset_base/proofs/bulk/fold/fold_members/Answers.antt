use Rattle.std.proofs.Common.{refl}
use Rattle.hibitset_base.proofs.bulk.fold.fold_members.Goals as goal

pub returns : goal.returns
returns g c = c.items.invariant.folded c.items.so_far (rw c.in-None.ensures.steps.0.0 refl)
