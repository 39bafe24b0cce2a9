use Rattle.std.proofs.Common.{length, ap, arith}
use Rattle.hibitset_base.specs.declared.util.TheConstants.{MAX_EID}
use Rattle.hibitset_base.proofs.MemberLemmas.{members-length}
use Rattle.hibitset_base.proofs.parallel.par_iter.BitParIter.collect.Goals as goal

pub collect-requires-clause-len_max : goal.collect-requires-clause-len_max
collect-requires-clause-len_max g c κs within =
    let few = members-length (g.T.BitSetLike.holds c.args.self.set) 0 MAX_EID in
    let e = ap length c.iter-2.ensures.items in
    omega (arith, few, e)
