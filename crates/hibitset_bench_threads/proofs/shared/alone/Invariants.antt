use Rattle.hibitset_atomic.specs.Seats.{BelongsTo}
use Rattle.hibitset_bench_threads.proofs.shared.alone.Given as goal

abbrev pub invariant-loop : goal.invariant-loop
invariant-loop g l = BelongsTo l.set l.seat

abbrev pub invariant-loop-id : goal.invariant-loop-id
invariant-loop-id g l = BelongsTo l.set l.seat
