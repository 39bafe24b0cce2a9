use Rattle.hibitset_run.proofs.StepLemmas.{removed}
use Rattle.hibitset_run.proofs.script.remove.Goals as goal

pub returns : goal.returns
returns c =
    rw c.number.ensures (removed c.args.sets.now c.args.slot c.index-sets-number.result c.told-sets c.args.id _ c.remove.result
    (rw c.number.ensures at c.remove.ensures.was_member) (λ i. rw c.number.ensures at (c.remove.ensures.removed i)))
