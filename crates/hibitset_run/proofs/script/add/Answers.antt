use Rattle.std.proofs.Common.{arith}
use Rattle.hibitset_run.proofs.StepLemmas.{added, refused}
use Rattle.hibitset_run.proofs.script.add.Goals as goal

pub returns-in-Ok : goal.returns-in-Ok
returns-in-Ok c =
    rw c.number.ensures (added c.args.sets.now c.args.slot c.index-sets-number.result c.told-sets c.args.id _ c.in-Ok.was (omega arith)
    (rw c.number.ensures at c.in-Ok.ensures.was_member) (λ i. rw c.number.ensures at (c.in-Ok.ensures.added i)))

pub returns-in-Err : goal.returns-in-Err
returns-in-Err c =
    rw c.number.ensures (refused c.args.sets.now c.args.slot c.index-sets-number.result c.told-sets c.args.id _ (omega arith)
    (rw c.number.ensures at c.in-Err.ensures.succeeds) (λ i. rw c.number.ensures at (c.in-Err.ensures.err i)))
