use Rattle.std.proofs.Common.{refl, arith, sym, ◌∙◌, append-nil}
use Rattle.hibitset_base.proofs.WriteLemmas.{pushed_next}
use Rattle.hibitset_sparse.proofs.bulk.push_all.Goals as goal

pub bits-init : goal.bits-init
unfolding Rattle.hibitset_base.specs.Members.members
bits-init c = record { pushed = sym (append-nil c.args.list.now.items); long = omega arith; room = refl }

pub bits-preserved : goal.bits-preserved
bits-preserved c = record {
  pushed = rw c.push_reserved.ensures.items (pushed_next c.bits.list.items c.args.list.now.items c.args.first c.bits.bit (omega arith) c.bits.invariant.pushed);
  long = (let one = c.push_reserved.ensures.len in let so_far = c.bits.invariant.long in omega (arith, one, so_far));
  room = c.push_reserved.ensures.capacity ∙ c.bits.invariant.room;
}
