use Rattle.hibitset_atomic.specs.Seats.{BelongsTo}
use Rattle.hibitset_atomic_tests.proofs.tests.shares.divided_among_as_many_as_it_has_shares.Given as goal

abbrev pub invariant-halves : goal.invariant-halves
invariant-halves g l = BelongsTo l.set l.eight
