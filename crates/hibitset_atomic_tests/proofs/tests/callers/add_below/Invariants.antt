use Rattle.std.proofs.Common.{◌≡◌, ◌≤◌, length}
use Rattle.hibitset_atomic.specs.Seats.{BelongsTo, reports_of}
use Rattle.hibitset_atomic_tests.proofs.tests.callers.add_below.Given as goal

abbrev pub invariant-loop-id : goal.invariant-loop-id
invariant-loop-id l = record {
  came : BelongsTo l.set l.seat;
  new : length (reports_of l.seat) ≡ l.new;
  few : l.new ≤ l.id;
}
