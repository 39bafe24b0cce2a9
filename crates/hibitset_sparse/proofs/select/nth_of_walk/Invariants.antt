use Rattle.std.proofs.Common.{◌≡◌, length}
use Rattle.std.specs.Prelude.{slice_get}
use Rattle.hibitset_sparse.specs.Walk.{items_left}
use Rattle.hibitset_sparse.proofs.select.nth_of_walk.Given as goal

-- the member that is sought stands so far from the next one
abbrev pub invariant-items : goal.invariant-items
invariant-items l = slice_get (items_left l.walk) l.left ≡ slice_get (items_left l.fn.walk) l.at

abbrev pub decreases-items : goal.decreases-items
decreases-items l = length (items_left l.walk)
