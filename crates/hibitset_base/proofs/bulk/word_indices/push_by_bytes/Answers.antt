use Rattle.std.proofs.Common.{◌*◌, ◌/◌, ◌^◌, refl, arith, sym, ◌∙◌, append-nil}
use Rattle.std.proofs.lemmas.Nat.{and_le_r}
use Rattle.hibitset_base.proofs.ByteTableLemmas.{wrote_bytes}
use Rattle.hibitset_base.proofs.bulk.word_indices.push_by_bytes.Goals as goal

pub bytes-init : goal.bytes-init
unfolding Rattle.hibitset_base.specs.Members.members
bytes-init c = record { pushed = sym (append-nil c.args.list.items); few = omega arith; room = refl }

pub overflow_cast-word : goal.overflow_cast-word
overflow_cast-word c = let small = and_le_r (c.args.word / 2 ^ (8 * c.bytes.place)) 255 in omega (arith, small)

pub bytes-preserved : goal.bytes-preserved
bytes-preserved c =
    let step = c.push_byte-list.ensures in
    record {
      pushed = wrote_bytes c.args.list.items _ c.args.start c.args.word c.bytes.place (rw c.bytes.invariant.pushed at step.pushed);
      few = (let few = step.len_max in let so_far = c.bytes.invariant.few in omega (arith, few, so_far));
      room = step.same_capacity ∙ c.bytes.invariant.room;
    }
