use Rattle.std.proofs.Common.{◌≡◌, ◌+◌, length}
use Rattle.hibitset_base.specs.Places.{items_of}
use Rattle.hibitset_base.specs.WordsRead.{words_of}
use Rattle.hibitset_base.specs.Cursor.{cursor_places, IsEmptyBelow}
use Rattle.hibitset_base.proofs.bulk.count.count_blocks.Given as goal

abbrev pub invariant-parts : goal.invariant-parts
invariant-parts g l =
    (l.count + length (items_of (g.T.BitSetLike.holds l.set) (cursor_places l.cursor)) ≡ length (items_of (g.T.BitSetLike.holds l.set) (cursor_places l.initial.cursor)))
    × IsEmptyBelow l.cursor 1

abbrev pub decreases-parts : goal.decreases-parts
decreases-parts g l = length (words_of (g.T.BitSetLike.word l.set) (cursor_places l.cursor))
