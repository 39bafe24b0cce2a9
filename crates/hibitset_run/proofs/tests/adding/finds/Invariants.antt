use Rattle.hibitset_atomic.specs.Seats.{BelongsTo}
use Rattle.hibitset_run.proofs.tests.adding.finds.Given as goal

abbrev pub invariant-loop-turn : goal.invariant-loop-turn
invariant-loop-turn l = BelongsTo l.set l.seat
