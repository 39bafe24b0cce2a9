use Rattle.std.proofs.Common.{◌≡◌, ℕ, ◌<◌, ◌≤◌, length, slice_index, Contains}
use Rattle.hibitset.specs.Prelude.{ATOMIC_MAX_EID, BelongsTo, IsKnown, weight_of, reports_of}
use Rattle.hibitset_atomic.specs.Lists.{Has}
use Rattle.uses.proofs.workers.add_list.Given as goal

-- the indices so far are known, and those that are reported are counted
abbrev pub invariant-loop-id : goal.invariant-loop-id
invariant-loop-id l = record {
  came : BelongsTo l.set l.seat;
  weight : weight_of l.seat ≡ weight_of l.fn.seat;
  number : l.new ≤ l.id-index;
  new : l.new ≡ length (reports_of l.seat);
  known : (k : ℕ) → k < l.id-index → slice_index l.list k < ATOMIC_MAX_EID → IsKnown l.seat (slice_index l.list k);
  reported : (i : ℕ) → Has (reports_of l.seat) i → (i < ATOMIC_MAX_EID) × Contains l.list i;
}
