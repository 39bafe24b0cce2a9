use Rattle.std.proofs.Common.{◌≡◌, ◌⊎◌, ℕ, true}
use Rattle.hibitset.specs.BitSet.{has as bits_have}
use Rattle.hibitset_atomic.specs.Seats.{IsOld, IsKnown, weight_of, reports_of}
use Rattle.hibitset_atomic.specs.SharedWalk.{set_of, seat_of, lender, IsDue}
use Rattle.hibitset_c.proofs.collect.collect.Given as goal

abbrev pub invariant-loop-index : goal.invariant-loop-index
invariant-loop-index l = record {
  can : (goal.iterator-loop-index).can_next l.index-iterator;
  finite : (goal.iterator-loop-index).is_finite l.index-iterator;
  same_reference : lender l.index-iterator ≡ lender l.initial.index-iterator;
  set : set_of l.index-iterator ≡ l.set;
  seat : (weight_of (seat_of l.index-iterator) ≡ weight_of l.fn.seat) × (reports_of (seat_of l.index-iterator) ≡ reports_of l.fn.seat);
  known : (i : ℕ) → IsKnown l.fn.seat i → IsKnown (seat_of l.index-iterator) i;
  stays : (i : ℕ) → bits_have l.fn.bits i ≡ true → bits_have l.bits i ≡ true;
  found : (i : ℕ) → bits_have l.bits i ≡ true → (bits_have l.fn.bits i ≡ true) ⊎ IsKnown (seat_of l.index-iterator) i;
  due : (i : ℕ) → IsOld l.set i ⊎ IsKnown l.fn.seat i → (bits_have l.bits i ≡ true) ⊎ IsDue l.index-iterator i;
}
