use Rattle.hibitset_run.proofs.StepLemmas.{told}
use Rattle.hibitset_run.proofs.script.has.Goals as goal

pub returns : goal.returns
returns c = told c.args.sets.now c.args.slot c.index-sets-number.result c.type_inv.sets c.args.id c.contains.result (rw c.number.ensures at c.contains.ensures)
