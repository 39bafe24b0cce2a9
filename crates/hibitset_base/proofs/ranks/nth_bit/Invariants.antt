use Rattle.std.proofs.Common.{◌≡◌}
use Rattle.std.specs.Prelude.{slice_get}
use Rattle.hibitset_base.specs.Places.{bits_from}
use Rattle.hibitset_base.proofs.ranks.nth_bit.Given as goal

abbrev pub invariant-bits : goal.invariant-bits
invariant-bits l = slice_get (bits_from l.start l.rest) l.left ≡ slice_get (bits_from l.start l.word) l.at

abbrev pub decreases-bits : goal.decreases-bits
decreases-bits l = l.rest
