use Rattle.std.proofs.Common.{◌≡◌, ℕ, ◌+◌, ◌-◌, ◌*◌, ◌<◌, ◌≤◌}
use Rattle.hibitset.specs.Prelude.{BelongsTo, IsKnown, weight_of, reports_of, loads_by}
use Rattle.uses.proofs.shared_ids.take_fresh.Given as goal

abbrev pub invariant-loop-id : goal.invariant-loop-id
invariant-loop-id l = record {
  came : BelongsTo l.set l.seat;
  weight : weight_of l.seat ≡ weight_of l.fn.seat;
  reports : reports_of l.seat ≡ reports_of l.fn.seat;
  known : (i : ℕ) → IsKnown l.fn.seat i → IsKnown l.seat i;
  passed : (i : ℕ) → l.start ≤ i → i < l.id → IsKnown l.seat i;
  past : l.end ≤ l.start → l.id ≡ l.start;
  loads : loads_by l.seat ≤ loads_by l.fn.seat + 7 * (l.id - l.start);
}
