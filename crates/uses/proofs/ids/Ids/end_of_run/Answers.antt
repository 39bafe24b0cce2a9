use Rattle.hibitset.specs.Prelude.{MAX_EID, has}
use Rattle.hibitset.proofs.CallerLemmas.{first_step_from}
use Rattle.uses.proofs.FreeRunLemmas.{EndsRun, run_end}
use Rattle.uses.proofs.ids.Ids.end_of_run.Goals as goal

ends : (c : goal.After-unwrap_or) → EndsRun (has c.args.self.now.used) c.args.start c.unwrap_or.result
ends c = rw c.unwrap_or.ensures (run_end (has c.args.self.now.used) c.args.start c.requires c.next.result (first_step_from MAX_EID c.args.start (has c.args.self.now.used) _ _ c.next.result c.iter_from.ensures.items c.next.ensures.steps.0))

pub returns-clause-from : goal.returns-clause-from
returns-clause-from c = (ends c).from

pub returns-clause-in_range : goal.returns-clause-in_range
returns-clause-in_range c = (ends c).within

pub returns-clause-free : goal.returns-clause-free
returns-clause-free c = (ends c).free

pub returns-clause-end : goal.returns-clause-end
returns-clause-end c = (ends c).last
