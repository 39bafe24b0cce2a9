use Rattle.std.proofs.Common.{arith}
use Rattle.std.specs.Int.{trailing_zeros, w64}
use Rattle.hibitset_base.proofs.PlaceLemmas.{bits-first}
use Rattle.hibitset_base.proofs.MaskLemmas.{takes_first, or_is_sum}
use Rattle.hibitset_base.proofs.bulk.take_index.Goals as goal

pub returns-clause-taken : goal.returns-clause-taken
returns-clause-taken c =
    let takes = takes_first c.args.rest.now c.requires.nonzero (omega arith) in
    let index = or_is_sum c.args.start (trailing_zeros w64 c.args.rest.now) c.requires.aligned takes.small in
    rw index (bits-first c.args.start c.args.rest.now _ _ takes)

pub returns-clause-less : goal.returns-clause-less
returns-clause-less c = (takes_first c.args.rest.now c.requires.nonzero (omega arith)).less
