use Rattle.std.proofs.Common.{◌≡◌, length}
use Rattle.hibitset_base.specs.Members.{members_below}
use Rattle.hibitset_base.specs.Places.{items_of}
use Rattle.hibitset_base.specs.Cursor.{cursor_places}
use Rattle.hibitset_base.specs.WordsRead.{words_of}
use Rattle.hibitset_base.specs.declared.util.TheConstants.{MAX_EID}
use Rattle.hibitset_base.proofs.like.BitSetLike.is_empty.Given as goal

abbrev pub invariant-places : goal.invariant-places
invariant-places g l = items_of (g.Self.BitSetLike.holds l.self) (cursor_places l.cursor) ≡ members_below MAX_EID (g.Self.BitSetLike.holds l.self)

abbrev pub decreases-places : goal.decreases-places
decreases-places g l = length (words_of (g.Self.BitSetLike.word l.self) (cursor_places l.cursor))
