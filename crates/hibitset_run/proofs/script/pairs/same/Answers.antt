use Rattle.hibitset_run.proofs.PairLemmas.{compared}
use Rattle.hibitset_run.proofs.script.pairs.same.Goals as goal

pub returns : goal.returns
returns c =
    compared c.args.sets.now c.args.slot c.args.other c.index-sets-number.result c.index-sets-number-2.result c.type_inv.sets c.eq.result
    (rw (c.number.ensures, c.number-2.ensures) at c.eq.ensures)
