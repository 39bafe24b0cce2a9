use Rattle.hibitset_atomic.specs.Seats.{BelongsTo}
use Rattle.uses_tests.proofs.tests.add_below.Given as goal

abbrev pub invariant-loop-id : goal.invariant-loop-id
invariant-loop-id l = BelongsTo l.set l.seat
