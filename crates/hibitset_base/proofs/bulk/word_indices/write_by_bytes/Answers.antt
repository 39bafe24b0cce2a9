use Rattle.std.proofs.Common.{◌*◌, ◌/◌, ◌^◌, arith, sym, append-nil, take}
use Rattle.std.proofs.lemmas.Nat.{and_le_r}
use Rattle.hibitset_base.proofs.ByteTableLemmas.{wrote_bytes}
use Rattle.hibitset_base.proofs.bulk.word_indices.write_by_bytes.Goals as goal

pub bytes-init : goal.bytes-init
unfolding Rattle.hibitset_base.specs.Members.members
bytes-init c = record {
  written = sym (append-nil (take c.args.at c.args.buffer.now));
  few = omega arith;
}

pub overflow_cast-word : goal.overflow_cast-word
overflow_cast-word c = let small = and_le_r (c.args.word / 2 ^ (8 * c.bytes.place)) 255 in omega (arith, small)

pub bytes-preserved : goal.bytes-preserved
bytes-preserved c =
    let step = c.write_byte-end.ensures in
    record {
      written = wrote_bytes (take c.args.at c.args.buffer.now) _ c.args.start c.args.word c.bytes.place (rw c.bytes.invariant.written at step.written);
      few = omega arith;
    }
