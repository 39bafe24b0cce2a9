use Rattle.std.proofs.Common.{◌≡◌, [], MatchOption}
use Rattle.hibitset_base.specs.Folds.{Combines}
use Rattle.hibitset_base.proofs.parallel.run.reduce.Given as goal

abbrev pub invariant-loop-next : goal.invariant-loop-next
invariant-loop-next g l =
    goal.C-IsAlwaysCallable g l.fn.combine
    × MatchOption l.so_far (l.yielded ≡ []) (Combines (λ a b r. goal.C-post g l.fn.combine a b r) l.yielded)
