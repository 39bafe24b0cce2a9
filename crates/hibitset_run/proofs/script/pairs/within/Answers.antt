use Rattle.hibitset_run.proofs.PairLemmas.{contained}
use Rattle.hibitset_run.proofs.script.pairs.within.Goals as goal

pub returns : goal.returns
returns c =
    contained c.args.sets.now c.args.slot c.args.other c.index-sets-number-2.result c.index-sets-number.result c.type_inv.sets c.contains_set.result
    (rw (c.number.ensures, c.number-2.ensures) at c.contains_set.ensures)
