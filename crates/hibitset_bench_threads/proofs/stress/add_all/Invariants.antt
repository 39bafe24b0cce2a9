use Rattle.std.proofs.Common.{IfSome}
use Rattle.hibitset_atomic.specs.Seats.{BelongsTo}
use Rattle.hibitset_bench_threads.proofs.stress.add_all.Given as goal

abbrev pub invariant-loop-draw : goal.invariant-loop-draw
invariant-loop-draw l = BelongsTo l.set l.hand.seat × IfSome l.hand.spare (λ s. BelongsTo l.set s)
