use Rattle.std.proofs.Common.{◌<◌, ap, arith, subst, take}
use Rattle.std.specs.List.{All}
use Rattle.hibitset_base.specs.Slices.{place_of}
use Rattle.hibitset_base.specs.declared.util.TheConstants.{MAX_EID}
use Rattle.hibitset_sparse.specs.SparseBitSet.{has}
use Rattle.hibitset_c.proofs.ListLemmas.{adds_whole, all_taken}
use Rattle.hibitset_c.proofs.sparse.add_list.Goals as goal

pub returns-in-Ok-clause-added : goal.returns-in-Ok-clause-added
returns-in-Ok-clause-added c = adds_whole c.args.list.now (has c.args.members.now) (has c.extend_from_slice.new.self) c.in-Ok.ensures.added

pub returns-in-Err-OutOfRange-clause-in_range : goal.returns-in-Err-OutOfRange-clause-in_range
returns-in-Err-OutOfRange-clause-in_range c =
    let list = c.args.list.now in let place = place_of c.in-Err-OutOfRange.field-0 in let below = c.in-Err-OutOfRange.ensures.error_place in
    subst (λ n. All (λ i. i < MAX_EID) (take n list)) (ap place_of c.in-Err-OutOfRange.field-0-is)
    (all_taken MAX_EID list place (omega (arith, below)) c.in-Err-OutOfRange.ensures.in_range_before)

pub returns-in-Err-Memory-clause-in_range : goal.returns-in-Err-Memory-clause-in_range
returns-in-Err-Memory-clause-in_range c =
    let list = c.args.list.now in let place = place_of c.in-Err-Memory.field-0 in let below = c.in-Err-Memory.ensures.error_place in
    subst (λ n. All (λ i. i < MAX_EID) (take n list)) (ap place_of c.in-Err-Memory.field-0-is)
    (all_taken MAX_EID list place (omega (arith, below)) c.in-Err-Memory.ensures.in_range_before)
