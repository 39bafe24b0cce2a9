use Rattle.std.proofs.Common.{◌≡◌, ◌+◌, [], ◌∷◌, ◌++◌, vec_len, arith}
use Rattle.std.proofs.lemmas.List.{take_more, map-append}
use Rattle.hibitset_run.specs.declared.script.Slot.TheVariants.{A}
use Rattle.hibitset_run.specs.declared.script.Command.TheVariants.{Add}
use Rattle.hibitset_run.specs.Script.{answer_of}
use Rattle.hibitset_run.proofs.RunLemmas.{IsRun-push}
use Rattle.hibitset_run.proofs.script.run.Goals as goal

pub loop-command-preserved : goal.loop-command-preserved
loop-command-preserved c =
    let replies : c.push.new.self.items ≡ c.loop-command.replies.items ++ c.step-reply.result ∷ [] = rw c.unwrap.ensures at c.push.ensures.items in
    let told : vec_len c.push.new.self ≡ vec_len c.loop-command.replies + 1 = rw c.unwrap.ensures at c.push.ensures.len in
    record {
      run = rw (take_more c.args.commands.now c.loop-command.command-index (Add A 0) c.loop-command-test.true, replies, map-append answer_of c.loop-command.replies.items (c.step-reply.result ∷ []))
          (IsRun-push _ _ _ _ _ _ _ c.loop-command.invariant.run c.step-reply.ensures);
      told = omega arith;
      room = omega (arith, c.push.ensures.capacity);
    }
