use Rattle.std.specs.List.{FoldsTo}
use Rattle.hibitset_base.specs.Places.{places_in, bits_from, items_of}
use Rattle.hibitset_base.proofs.bulk.fold.fold_subtree.Given as goal

-- whatever the items that are left fold to, all fold to
abbrev pub invariant-bits : goal.invariant-bits
invariant-bits g l =
    goal.F-IsAlwaysCallable g l.fn.step
    × ((last : _) → FoldsTo (λ a x b. goal.F-post g l.fn.step a x b) l.so_far (items_of (g.T.BitSetLike.holds l.set) (places_in 1 (bits_from l.start l.rest))) last
    → FoldsTo (λ a x b. goal.F-post g l.fn.step a x b) l.fn.init (items_of (g.T.BitSetLike.holds l.set) (places_in 1 (bits_from l.start l.word))) last)

abbrev pub decreases-bits : goal.decreases-bits
decreases-bits g l = l.rest
