use Rattle.hibitset_run.proofs.StepLemmas.{listed, unlisted}
use Rattle.hibitset_run.proofs.script.list.Goals as goal

pub returns-in-Ok : goal.returns-in-Ok
returns-in-Ok c = listed c.args.sets.now c.args.slot c.index-sets-number.result c.type_inv.sets c.in-Ok.indices.items (rw c.number.ensures at c.in-Ok.ensures.indices)

pub returns-in-Err : goal.returns-in-Err
returns-in-Err c = unlisted c.args.sets.now c.args.slot c.index-sets-number.result c.type_inv.sets (rw c.number.ensures at c.in-Err.ensures.err)
