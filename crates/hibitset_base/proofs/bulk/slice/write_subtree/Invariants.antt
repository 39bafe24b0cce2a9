use Rattle.std.proofs.Common.{◌≡◌, ◌≤◌, ◌++◌, length, take}
use Rattle.hibitset_base.specs.Places.{places_in, bits_from, items_of}
use Rattle.hibitset_base.proofs.bulk.slice.write_subtree.Given as goal

abbrev pub invariant-bits : goal.invariant-bits
invariant-bits g l = record {
  written : take l.end l.list ++ items_of (g.T.BitSetLike.holds l.set) (places_in 1 (bits_from l.start l.rest))
      ≡ take l.at l.initial.list ++ items_of (g.T.BitSetLike.holds l.set) (places_in 1 (bits_from l.start l.word));
  within : l.end ≤ length l.list;
}

abbrev pub decreases-bits : goal.decreases-bits
decreases-bits g l = l.rest
