use Rattle.std.proofs.Common.{◌≡◌, ◌≤◌, ◌++◌, length, take}
use Rattle.hibitset_base.specs.Places.{items_of}
use Rattle.hibitset_base.specs.WordsRead.{words_of}
use Rattle.hibitset_base.specs.Cursor.{cursor_places, IsEmptyBelow}
use Rattle.hibitset_base.specs.Walk.{items_left}
use Rattle.hibitset_base.proofs.bulk.slice.write_walk.Given as goal

abbrev pub invariant-parts : goal.invariant-parts
invariant-parts g l = record {
  written : take l.end l.list ++ items_of (g.T.BitSetLike.holds l.walk.set) (cursor_places l.cursor) ≡ take l.at l.fn.list ++ items_left g.T.BitSetLike.holds l.walk;
  below : IsEmptyBelow l.cursor 1;
  within : l.end ≤ length l.list;
}

abbrev pub decreases-parts : goal.decreases-parts
decreases-parts g l = length (words_of (g.T.BitSetLike.word l.walk.set) (cursor_places l.cursor))
