use Rattle.std.proofs.Common.{arith}
use Rattle.hibitset_roaring.proofs.LayoutLemmas.{next_at}
use Rattle.hibitset_roaring.proofs.ContainerLemmas.{size_runs}
use Rattle.hibitset_roaring.proofs.FaultLemmas.{cut_at}
use Rattle.hibitset_roaring.proofs.header.Header.check_container.Goals as goal

pub returns-then-not-is_within-clause-fault : goal.returns-then-not-is_within-clause-fault
returns-then-not-is_within-clause-fault c = λ end.
    cut_at c.args.bytes.now end c.args.k c.args.at c.requires.at (let n = c.requires.header.count_is in let w = c.requires.which in omega (arith, n, w)) (c.is_within.ensures.cut c.if-not-is_within.true)

pub size-requires-clause-within : goal.size-requires-clause-within
size-requires-clause-within c = λ run.
    let s = size_runs c.args.bytes.now c.args.k c.args.at run in
    let within = c.is_within.ensures.within c.if-not-is_within.false in
    omega (arith, s, within)

pub returns-clause-end : goal.returns-clause-end
returns-clause-end c = let n = next_at c.args.bytes.now c.args.k c.args.at c.requires.at in omega (arith, n, c.size.ensures.size)
