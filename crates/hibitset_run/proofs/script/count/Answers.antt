use Rattle.hibitset_run.proofs.StepLemmas.{counted}
use Rattle.hibitset_run.proofs.script.count.Goals as goal

pub returns : goal.returns
returns c = counted c.args.sets.now c.args.slot c.index-sets-number.result c.type_inv.sets c.count_of.result (rw c.number.ensures at c.count_of.ensures)
