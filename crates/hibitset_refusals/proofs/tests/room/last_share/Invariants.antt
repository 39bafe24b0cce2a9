use Rattle.hibitset_atomic.specs.Seats.{BelongsTo}
use Rattle.hibitset_refusals.proofs.tests.room.last_share.Given as goal

abbrev pub invariant-halves : goal.invariant-halves
invariant-halves l = BelongsTo l.set l.last
