use Rattle.std.proofs.Common.{◌≡◌, ◌≢◌, get_or, arith}
use Rattle.hibitset_run.specs.Script.{slot_number}
use Rattle.hibitset_run.proofs.PairLemmas.{xor_one, xor_none, xor_two, xor_refused, not_empty}
use Rattle.hibitset_run.proofs.script.pairs.xor.Goals as goal

pub returns-then-place-other_place : goal.returns-then-place-other_place
returns-then-place-other_place c =
    let one : slot_number c.args.other ≡ slot_number c.args.slot = omega (arith, c.if-place-other_place.true, c.number-place.ensures, c.number-other_place.ensures) in
    rw c.number-place.ensures (xor_one c.args.sets.now c.args.slot c.args.other one c.index-sets-place.result _ c.told-sets c.clear.ensures.empty)

pub returns-then-is_empty : goal.returns-then-is_empty
returns-then-is_empty c =
    xor_none c.args.sets.now c.args.slot c.args.other c.index-sets-other_place.result c.told-sets c.is_empty.result c.if-is_empty.true (rw c.number-other_place.ensures at c.is_empty.ensures)

pub returns-in-Ok : goal.returns-in-Ok
returns-in-Ok c =
    let apart : slot_number c.args.other ≢ slot_number c.args.slot = omega (arith, c.if-place-other_place.false, c.number-place.ensures, c.number-other_place.ensures) in
    rw c.number-place.ensures (xor_two c.args.sets.now c.args.slot c.args.other c.index-sets-place-2.result c.index-sets-other_place-2.result _ _ c.told-sets apart
    (rw (c.replace-set.ensures.value, c.number-place.ensures, c.number-other_place.ensures) at c.in-Ok.ensures.members))

pub returns-in-Err : goal.returns-in-Err
returns-in-Err c =
    let apart : slot_number c.args.other ≢ slot_number c.args.slot = omega (arith, c.if-place-other_place.false, c.number-place.ensures, c.number-other_place.ensures) in
    let some = not_empty c.is_empty.result (get_or c.args.sets.now (slot_number c.args.other) c.index-sets-other_place.result) c.if-is_empty.false (rw c.number-other_place.ensures at c.is_empty.ensures) in
    rw c.number-place.ensures (xor_refused c.args.sets.now c.args.slot c.args.other c.index-sets-place-2.result c.index-sets-other_place.result _ _ c.told-sets apart some
    (rw (c.replace-set.ensures.value, c.number-place.ensures) at c.in-Err.ensures.err))
