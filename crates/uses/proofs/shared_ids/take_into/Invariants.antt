use Rattle.std.proofs.Common.{◌≡◌, ℕ, ◌+◌, ◌*◌, ◌<◌, ◌≤◌, length, reverse}
use Rattle.hibitset.specs.Prelude.{ATOMIC_MAX_EID, BelongsTo, IsKnown, weight_of, reports_of, loads_by}
use Rattle.uses.proofs.shared_ids.take_into.Given as goal

abbrev pub invariant-loop : goal.invariant-loop
invariant-loop l = record {
  came : BelongsTo l.set l.seat;
  weight : weight_of l.seat ≡ weight_of l.fn.seat;
  taken : reports_of l.seat ≡ reverse l.ids.items;
  count : length l.ids.items ≡ l.counter;
  start : l.start ≤ ATOMIC_MAX_EID;
  passed : (i : ℕ) → i < l.start → IsKnown l.seat i;
  loads : loads_by l.seat ≤ loads_by l.fn.seat + 7 * l.start;
}
