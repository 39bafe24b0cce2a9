use Rattle.std.proofs.Common.{arith}
use Rattle.hibitset_base.proofs.ReadsToLemmas.{goes_both, no_more}
use Rattle.hibitset_base.proofs.iter.load_next_from_layer3.Goals as goal

pub returns-clause-goes : goal.returns-clause-goes
returns-clause-goes g c = goes_both c.try_descend.ensures.goes c.try_descend-2.ensures.goes

pub returns-clause-fewer : goal.returns-clause-fewer
returns-clause-fewer g c filled =
    let more = no_more c.try_descend.ensures.goes in
    let fewer = c.try_descend-2.ensures.fewer filled in
    omega (arith, more, fewer)
