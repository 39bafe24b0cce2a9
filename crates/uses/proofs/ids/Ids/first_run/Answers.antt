use Rattle.std.proofs.Common.{arith}
use Rattle.hibitset.specs.Prelude.{has}
use Rattle.uses.proofs.FreeRunLemmas.{first_here, past_run, no_run}
use Rattle.uses.proofs.ids.Ids.first_run.Goals as goal

pub returns-then-end-start : goal.returns-then-end-start
returns-then-end-start c =
    first_here (has c.args.self.now.used) c.args.count c.loop-start.from c.in-Some.start c.requires c.loop-start.invariant.first c.in-Some.ensures c.end_of_run-end.result
    (record { from = c.end_of_run-end.ensures.from; within = c.end_of_run-end.ensures.in_range; free = c.end_of_run-end.ensures.free; last = c.end_of_run-end.ensures.end }) c.if-end-start.true

pub loop-start-preserved : goal.loop-start-preserved
loop-start-preserved c = record {
  within = c.end_of_run-end.ensures.in_range;
  first = past_run (has c.args.self.now.used) c.args.count c.loop-start.from c.in-Some.start c.requires c.loop-start.invariant.first c.in-Some.ensures c.end_of_run-end.result
      (record { from = c.end_of_run-end.ensures.from; within = c.end_of_run-end.ensures.in_range; free = c.end_of_run-end.ensures.free; last = c.end_of_run-end.ensures.end }) (let h = c.if-end-start.false in omega (arith, h));
}

pub returns : goal.returns
returns c = no_run (has c.args.self.now.used) c.args.count c.loop-start.from 0 c.requires c.loop-start.invariant.first c.in_default.ensures
