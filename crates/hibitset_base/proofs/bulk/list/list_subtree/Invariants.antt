use Rattle.std.proofs.Common.{◌≡◌, ◌≤◌, ◌++◌, length, take}
use Rattle.hibitset_base.specs.Places.{places_in, bits_from, items_of}
use Rattle.hibitset_base.proofs.bulk.list.list_subtree.Given as goal

abbrev pub invariant-bits : goal.invariant-bits
invariant-bits g l = record {
  listed : l.list.items ++ (take l.end l.buffer ++ items_of (g.T.BitSetLike.holds l.set) (places_in 1 (bits_from l.start l.rest)))
      ≡ l.initial.list.items ++ (take l.initial.end l.initial.buffer ++ items_of (g.T.BitSetLike.holds l.set) (places_in 1 (bits_from l.start l.word)));
  within : l.end ≤ length l.buffer;
}

abbrev pub decreases-bits : goal.decreases-bits
decreases-bits g l = l.rest
