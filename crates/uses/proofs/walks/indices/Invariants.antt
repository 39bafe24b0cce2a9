use Rattle.std.proofs.Common.{◌≡◌, ◌⊎◌, ℕ, ◌+◌, ◌*◌, ◌<◌, ◌≤◌, Contains, length}
use Rattle.std.specs.List.Sorted.{IsStrictlyIncreasing}
use Rattle.hibitset.specs.Prelude.{IsOld, IsKnown, weight_of, reports_of, loads_by, exchanges_by, seat_of, loads_of, next_from, IsDue}
use Rattle.hibitset_atomic.specs.SharedWalk.{set_of, lender}
use Rattle.uses.proofs.walks.indices.Given as goal

abbrev pub invariant-loop-index : goal.invariant-loop-index
invariant-loop-index l = record {
  can : (goal.iterator-loop-index).can_next l.index-iterator;
  finite : (goal.iterator-loop-index).is_finite l.index-iterator;
  same_reference : lender l.index-iterator ≡ lender l.initial.index-iterator;
  set : set_of l.index-iterator ≡ l.set;
  seat : (weight_of (seat_of l.index-iterator) ≡ weight_of l.fn.seat) × (reports_of (seat_of l.index-iterator) ≡ reports_of l.fn.seat);
  known : (i : ℕ) → IsKnown l.fn.seat i → IsKnown (seat_of l.index-iterator) i;
  due : (i : ℕ) → IsOld l.set i ⊎ IsKnown l.fn.seat i → Contains l.all.items i ⊎ IsDue l.index-iterator i;
  items : (i : ℕ) → Contains l.all.items i → IsKnown (seat_of l.index-iterator) i × (i < next_from l.index-iterator);
  ascending : IsStrictlyIncreasing l.all.items;
  loaded : loads_by (seat_of l.index-iterator) ≡ loads_by l.fn.seat + loads_of l.index-iterator;
  few : loads_of l.index-iterator ≤ 3 * length l.all.items + 1;
  exchanged : exchanges_by (seat_of l.index-iterator) ≡ exchanges_by l.fn.seat;
}
