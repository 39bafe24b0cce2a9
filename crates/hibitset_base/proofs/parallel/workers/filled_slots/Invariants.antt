use Rattle.hibitset_base.specs.Answers.{FilledBy}
use Rattle.hibitset_base.proofs.parallel.workers.filled_slots.Given as goal

abbrev pub invariant-loop-answer : goal.invariant-loop-answer
invariant-loop-answer g l = FilledBy l.yielded l.fn.slots.items l.slots.items
