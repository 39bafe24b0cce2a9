use Rattle.hibitset_atomic.specs.Seats.{BelongsTo}
use Rattle.hibitset_atomic_tests.proofs.tests.again.all_but_one.Given as goal

abbrev pub invariant-halves : goal.invariant-halves
invariant-halves l = BelongsTo l.set l.first × BelongsTo l.set l.rest
