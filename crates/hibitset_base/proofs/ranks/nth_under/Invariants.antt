use Rattle.std.proofs.Common.{◌≡◌}
use Rattle.std.specs.Prelude.{slice_get}
use Rattle.hibitset_base.specs.Places.{places_in, bits_from, items_of}
use Rattle.hibitset_base.proofs.ranks.nth_under.Given as goal

abbrev pub invariant-bits : goal.invariant-bits
invariant-bits g l = slice_get (items_of (g.T.BitSetLike.holds l.set) (places_in 1 (bits_from l.start l.rest))) l.left ≡ slice_get (items_of (g.T.BitSetLike.holds l.set) (places_in 1 (bits_from l.start l.word))) l.at

abbrev pub decreases-bits : goal.decreases-bits
decreases-bits g l = l.rest
