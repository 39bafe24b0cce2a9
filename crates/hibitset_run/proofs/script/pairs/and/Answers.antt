use Rattle.std.proofs.Common.{◌≡◌, ◌≢◌, arith}
use Rattle.hibitset_run.specs.Script.{slot_number}
use Rattle.hibitset_run.proofs.PairLemmas.{and_one, and_two}
use Rattle.hibitset_run.proofs.script.pairs.and.Goals as goal

pub returns-then-place-other_place : goal.returns-then-place-other_place
returns-then-place-other_place c =
    let one : slot_number c.args.other ≡ slot_number c.args.slot = omega (arith, c.if-place-other_place.true, c.number-place.ensures, c.number-other_place.ensures) in
    and_one c.args.sets.now c.args.slot c.args.other one

pub returns : goal.returns
returns c =
    let apart : slot_number c.args.other ≢ slot_number c.args.slot = omega (arith, c.if-place-other_place.false, c.number-place.ensures, c.number-other_place.ensures) in
    rw c.number-place.ensures (and_two c.args.sets.now c.args.slot c.args.other c.index-sets-place.result c.index-sets-other_place.result _ _ c.told-sets apart
    (rw (c.replace-set.ensures.value, c.number-place.ensures, c.number-other_place.ensures) at c.bitand_assign.ensures.after.0))
