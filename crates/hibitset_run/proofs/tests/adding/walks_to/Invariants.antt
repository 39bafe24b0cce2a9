use Rattle.std.proofs.Common.{◌≡◌}
use Rattle.hibitset_atomic.specs.Seats.{BelongsTo}
use Rattle.hibitset_atomic.specs.SharedWalk.{set_of, seat_of, lender}
use Rattle.hibitset_run.proofs.tests.adding.walks_to.Given as goal

abbrev pub invariant-loop-index : goal.invariant-loop-index
invariant-loop-index l = record {
  can : (goal.iterator-loop-index).can_next l.index-iterator;
  finite : (goal.iterator-loop-index).is_finite l.index-iterator;
  same_reference : lender l.index-iterator ≡ lender l.initial.index-iterator;
  set : set_of l.index-iterator ≡ l.set;
  came : BelongsTo l.set (seat_of l.index-iterator);
}
