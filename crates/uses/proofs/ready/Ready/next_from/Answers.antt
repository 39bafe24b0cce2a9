use Rattle.std.proofs.Common.{sym, ◌∙◌}
use Rattle.hibitset.specs.Prelude.{MAX_EID}
use Rattle.hibitset.proofs.CallerLemmas.{first_from, none_from}
use Rattle.uses.specs.Ready.{is_ready}
use Rattle.uses.proofs.ready.Ready.next_from.Goals as goal

pub returns-in_err-task-clause-first : goal.returns-in_err-task-clause-first
returns-in_err-task-clause-first c = rw c.from_residual.ensures (none_from MAX_EID c.args.start (is_ready c.args.self.now) (sym c.iter_from.ensures.items ∙ c.in_err-task.ensures.steps.0.0))

pub returns-clause-first : goal.returns-clause-first
returns-clause-first c = first_from MAX_EID c.args.start (is_ready c.args.self.now) c.in_ok-task.task _ (sym c.iter_from.ensures.items ∙ c.in_ok-task.ensures.steps.0)
