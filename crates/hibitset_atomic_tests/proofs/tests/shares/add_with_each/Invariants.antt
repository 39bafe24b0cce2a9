use Rattle.std.proofs.Common.{◌≡◌, All, length}
use Rattle.hibitset_atomic.specs.Seats.{BelongsTo}
use Rattle.hibitset_atomic_tests.proofs.tests.shares.add_with_each.Given as goal

abbrev pub invariant-loop-place : goal.invariant-loop-place
invariant-loop-place l = record {
  came : All (BelongsTo l.set) l.seats.items;
  number : length l.seats.items ≡ length l.fn.seats.items;
}
