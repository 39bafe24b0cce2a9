use Rattle.std.proofs.Common.{length, ap, arith, inl}
use Rattle.hibitset.specs.BitSet.{has}
use Rattle.hibitset_base.specs.declared.util.TheConstants.{MAX_EID}
use Rattle.hibitset_base.proofs.MemberLemmas.{members-length}
use Rattle.hibitset_bench_threads.proofs.parallel.count_alone.Goals as goal

-- a walk has no more items than there are indices
pub count-requires-clause-fits : goal.count-requires-clause-fits
count-requires-clause-fits c =
    let most = members-length (has c.args.set.now) 0 MAX_EID in
    let items = ap length c.iter.ensures.items in
    inl (omega (arith, most, items))
