use Rattle.std.specs.List.{FoldsTo}
use Rattle.hibitset_base.specs.Places.{bits_from}
use Rattle.hibitset_base.proofs.bulk.fold.fold_word.Given as goal

-- whatever the bits that are left fold to, all fold to
abbrev pub invariant-bits : goal.invariant-bits
invariant-bits g l =
    goal.F-IsAlwaysCallable g l.fn.step
    × ((last : _) → FoldsTo (λ a x b. goal.F-post g l.fn.step a x b) l.so_far (bits_from l.start l.rest) last
    → FoldsTo (λ a x b. goal.F-post g l.fn.step a x b) l.fn.init (bits_from l.start l.word) last)

abbrev pub decreases-bits : goal.decreases-bits
decreases-bits g l = l.rest
