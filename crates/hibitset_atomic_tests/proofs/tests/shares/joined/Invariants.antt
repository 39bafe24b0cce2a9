use Rattle.std.proofs.Common.{◌≡◌, ◌+◌, ◌++◌, All}
use Rattle.std.specs.List.{sum_by, flat_map}
use Rattle.std.specs.Vec.Iter.{into_iter_items}
use Rattle.hibitset_atomic.specs.Seats.{BelongsTo, weight_of, reports_of}
use Rattle.hibitset_atomic_tests.proofs.tests.shares.joined.Given as goal

abbrev pub invariant-others : goal.invariant-others
invariant-others l = record {
  came : BelongsTo l.set l.all;
  left : All (BelongsTo l.set) (into_iter_items l.seat-iterator);
  weight : weight_of l.all + sum_by weight_of (into_iter_items l.seat-iterator) ≡ weight_of l.fn.first + sum_by weight_of l.fn.others.items;
  reports : reports_of l.all ++ flat_map reports_of (into_iter_items l.seat-iterator) ≡ reports_of l.fn.first ++ flat_map reports_of l.fn.others.items;
}
