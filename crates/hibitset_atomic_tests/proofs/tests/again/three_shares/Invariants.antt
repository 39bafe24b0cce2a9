use Rattle.hibitset_atomic.specs.Seats.{BelongsTo}
use Rattle.hibitset_atomic_tests.proofs.tests.again.three_shares.Given as goal

abbrev pub invariant-halves : goal.invariant-halves
invariant-halves l = BelongsTo l.set l.first
