use Rattle.std.proofs.Common.{All}
use Rattle.hibitset_base.specs.Answers.{AnswersItsPart}
use Rattle.hibitset_base.proofs.parallel.workers.work.Given as goal

abbrev pub invariant-loop : goal.invariant-loop
invariant-loop g l = All (AnswersItsPart (λ part u. goal.F-post g l.fn.f part u) l.fn.parts) l.answers.items
