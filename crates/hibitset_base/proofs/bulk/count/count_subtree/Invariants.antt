use Rattle.std.proofs.Common.{◌≡◌, ◌+◌, length}
use Rattle.hibitset_base.specs.Places.{places_in, bits_from, items_of}
use Rattle.hibitset_base.proofs.bulk.count.count_subtree.Given as goal

abbrev pub invariant-bits : goal.invariant-bits
invariant-bits g l =
    l.count + length (items_of (g.T.BitSetLike.holds l.set) (places_in 1 (bits_from l.start l.rest)))
    ≡ length (items_of (g.T.BitSetLike.holds l.set) (places_in 1 (bits_from l.start l.word)))

abbrev pub decreases-bits : goal.decreases-bits
decreases-bits g l = l.rest
