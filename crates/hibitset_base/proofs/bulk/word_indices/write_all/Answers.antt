use Rattle.std.proofs.Common.{◌≡◌, ◌+◌, take, arith, sym, add-zero, append-nil}
use Rattle.hibitset_base.proofs.WriteLemmas.{wrote_next}
use Rattle.hibitset_base.proofs.bulk.word_indices.write_all.Goals as goal

pub bits-init : goal.bits-init
unfolding Rattle.hibitset_base.specs.Members.members
bits-init c = rw add-zero (sym (append-nil (take c.args.at c.args.buffer.now)))

pub bits-preserved : goal.bits-preserved
bits-preserved c =
    let next : c.args.at + (c.bits.bit + 1) ≡ c.args.at + c.bits.bit + 1 = omega arith in
    rw next (wrote_next c.bits.buffer _ c.args.start (c.args.at + c.bits.bit) c.bits.bit (omega arith) (omega arith) c.bits.invariant)
