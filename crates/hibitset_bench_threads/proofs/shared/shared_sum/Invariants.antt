use Rattle.std.proofs.Common.{◌≡◌}
use Rattle.hibitset_atomic.specs.SharedWalk.{set_of, lender}
use Rattle.hibitset_bench_threads.proofs.shared.shared_sum.Given as goal

-- the walk goes on over the set by the same reference to the seat
abbrev pub invariant-loop-id : goal.invariant-loop-id
invariant-loop-id l =
    (goal.iterator-loop-id).can_next l.id-iterator
    × (goal.iterator-loop-id).is_finite l.id-iterator
    × (lender l.id-iterator ≡ lender l.initial.id-iterator)
    × (set_of l.id-iterator ≡ l.set)
