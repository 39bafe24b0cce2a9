use Rattle.std.proofs.Common.{arith}
use Rattle.hibitset_base.proofs.RevWalkLemmas.{both_back}
use Rattle.hibitset_base.proofs.rev_iter.load_last_from_layer2.Goals as goal

pub returns-clause-goes : goal.returns-clause-goes
returns-clause-goes g c = both_back c.descend_last.ensures.goes c.load_last_from_layer3.ensures.goes

pub returns-clause-reads_min : goal.returns-clause-reads_min
returns-clause-reads_min g c filled =
    let same = c.descend_last.ensures.same c.if-descend_last.false in
    let more = c.load_last_from_layer3.ensures.reads_min filled in
    omega (arith, same, more)
