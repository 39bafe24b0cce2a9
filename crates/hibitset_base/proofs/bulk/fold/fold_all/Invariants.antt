use Rattle.std.specs.List.{FoldsTo}
use Rattle.hibitset_base.proofs.WriteLemmas.{first_bits}
use Rattle.hibitset_base.proofs.bulk.fold.fold_all.Given as goal

abbrev pub invariant-bits : goal.invariant-bits
invariant-bits g l =
    goal.F-IsAlwaysCallable g l.fn.step
    × FoldsTo (λ a x b. goal.F-post g l.fn.step a x b) l.fn.init (first_bits l.start l.bit) l.so_far
