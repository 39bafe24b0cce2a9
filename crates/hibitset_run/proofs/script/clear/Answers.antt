use Rattle.hibitset_run.proofs.StepLemmas.{cleared}
use Rattle.hibitset_run.proofs.script.clear.Goals as goal

pub returns : goal.returns
returns c = rw c.number.ensures (cleared c.args.sets.now c.args.slot c.index-sets-number.result c.told-sets _ c.clear.ensures.empty)
