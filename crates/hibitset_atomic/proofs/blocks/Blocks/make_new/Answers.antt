use Rattle.std.proofs.Common.{arith}
use Rattle.hibitset_atomic.proofs.BlockTableLemmas.{made_less}
use Rattle.hibitset_atomic.proofs.blocks.Blocks.make_new.Goals as goal

pub overflow_cast-len : goal.overflow_cast-len
overflow_cast-len c =
    let self = c.args.self.now in
    let count = self.placed.count in
    let less = made_less self.places.items c.args.block (omega (arith, count, c.requires.block)) c.requires.new in
    let size = self.placed.size in
    let len = c.len-len.ensures in
    omega (arith, less, count, size, len)

pub returns-in_err-resize-clause-succeeds : goal.returns-in_err-resize-clause-succeeds
returns-in_err-resize-clause-succeeds c = λ room.
    let self = c.args.self.now in
    let count = self.placed.count in
    let less = made_less self.places.items c.args.block (omega (arith, count, c.requires.block)) c.requires.new in
    let size = self.placed.size in
    let len = c.len-len.ensures in
    let full = c.in_err-resize.ensures in
    absurd (let f = full.full in omega (arith, less, count, size, len, f, room))
