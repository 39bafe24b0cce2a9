use Rattle.std.proofs.Common.{◌≡◌, ◌≤◌, ◌++◌, length, take}
use Rattle.hibitset_base.specs.Places.{items_of}
use Rattle.hibitset_base.specs.WordsRead.{words_of}
use Rattle.hibitset_base.specs.Cursor.{cursor_places, IsEmptyBelow}
use Rattle.hibitset_base.proofs.bulk.list.list_left.Given as goal

abbrev pub invariant-parts : goal.invariant-parts
invariant-parts g l = record {
  listed : l.list.items ++ (take l.end l.buffer ++ items_of (g.T.BitSetLike.holds l.set) (cursor_places l.cursor)) ≡ l.fn.list.items ++ items_of (g.T.BitSetLike.holds l.set) (cursor_places l.fn.cursor);
  below : IsEmptyBelow l.cursor 1;
  within : l.end ≤ length l.buffer;
}

abbrev pub decreases-parts : goal.decreases-parts
decreases-parts g l = length (words_of (g.T.BitSetLike.word l.set) (cursor_places l.cursor))
