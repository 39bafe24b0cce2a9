use Rattle.std.proofs.Common.{◌≡◌, length}
use Rattle.std.specs.Prelude.{slice_get}
use Rattle.hibitset_base.specs.Members.{members_below}
use Rattle.hibitset_base.specs.Places.{items_of}
use Rattle.hibitset_base.specs.WordsRead.{words_of}
use Rattle.hibitset_base.specs.Cursor.{cursor_places, IsEmptyBelow}
use Rattle.hibitset_base.specs.declared.util.TheConstants.{MAX_EID}
use Rattle.hibitset_base.proofs.ranks.find_nth.Given as goal

abbrev pub invariant-parts : goal.invariant-parts
invariant-parts g l = record {
  here : slice_get (items_of (g.T.BitSetLike.holds l.set) (cursor_places l.cursor)) l.left ≡ slice_get (members_below MAX_EID (g.T.BitSetLike.holds l.set)) l.at;
  below : IsEmptyBelow l.cursor 1;
}

abbrev pub decreases-parts : goal.decreases-parts
decreases-parts g l = length (words_of (g.T.BitSetLike.word l.set) (cursor_places l.cursor))
