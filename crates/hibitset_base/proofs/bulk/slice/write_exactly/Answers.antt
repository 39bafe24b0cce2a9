use Rattle.std.proofs.Common.{◌<◌, arith}
use Rattle.hibitset_base.proofs.OneCountLemmas.{some_ones}
use Rattle.hibitset_base.proofs.WriteLemmas.{written_none}
use Rattle.hibitset_base.proofs.bulk.slice.write_exactly.Goals as goal

pub bits-init : goal.bits-init
bits-init c = let room = c.requires.long_enough in written_none c.args.list.now c.args.at c.args.start c.args.word (omega arith) (omega (arith, room))

pub write_bit-rest-requires-clause-long_enough : goal.write_bit-rest-requires-clause-long_enough
write_bit-rest-requires-clause-long_enough c =
    let more : 0 < c.bits.rest = omega arith in
    let here = c.bits.invariant.room more in
    let some = some_ones c.bits.rest more in
    let room = c.requires.long_enough in
    omega (arith, here, some, room)

pub bits-smaller : goal.bits-smaller
bits-smaller c =
    let more : 0 < c.bits.rest = omega arith in
    let here = c.bits.invariant.room more in
    let some = some_ones c.bits.rest more in
    omega (arith, here, some)

pub bits-preserved : goal.bits-preserved
bits-preserved c = c.write_bit-rest.ensures c.args.at _ _ c.bits.invariant
