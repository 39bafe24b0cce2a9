use Rattle.std.proofs.Common.{◌≡◌, ◌⊎◌, ℕ, ◌+◌, ◌<◌, ◌++◌, All, Any, Contains, length, flat_map}
use Rattle.std.specs.List.{sum_by}
use Rattle.std.specs.Vec.Iter.{into_iter_items}
use Rattle.hibitset.specs.Prelude.{ATOMIC_MAX_EID, BelongsTo, IsKnown, weight_of, reports_of}
use Rattle.uses.specs.Workers.{IsWork, seat_weight, new_reports}
use Rattle.uses.proofs.workers.together.Given as goal

-- what is joined, and what the other workers bring
abbrev pub invariant-works : goal.invariant-works
invariant-works l = record {
  came : BelongsTo l.set l.seat;
  left : All (IsWork l.set) (into_iter_items l.work-iterator);
  weight : weight_of l.seat + sum_by seat_weight (into_iter_items l.work-iterator) ≡ weight_of l.fn.kept + sum_by seat_weight l.fn.works.items;
  known : (i : ℕ) → Any (λ work. IsKnown work.seat i) l.fn.works.items → IsKnown l.seat i ⊎ Any (λ work. IsKnown work.seat i) (into_iter_items l.work-iterator);
  reports : reports_of l.seat ++ flat_map new_reports (into_iter_items l.work-iterator) ≡ flat_map new_reports l.fn.works.items;
  new : l.new ≡ length (reports_of l.seat);
  range : (i : ℕ) → Contains (reports_of l.seat) i → i < ATOMIC_MAX_EID;
}
