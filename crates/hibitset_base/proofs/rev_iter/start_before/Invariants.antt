use Rattle.std.proofs.Common.{◌≡◌, ◌+◌, ◌-◌}
use Rattle.hibitset_base.specs.Members.{members_below}
use Rattle.hibitset_base.specs.Places.{items_of}
use Rattle.hibitset_base.specs.Ranks.{start_over}
use Rattle.hibitset_base.specs.WordsRead.{AllAreSet}
use Rattle.hibitset_base.specs.RevCursor.{rev_left, IsRevEmptyBelow}
use Rattle.hibitset_base.specs.declared.util.TheConstants.{LAYERS}
use Rattle.hibitset_base.proofs.rev_iter.start_before.Given as goal

-- what is left are the members before the place over the index in the layer that was looked at last
abbrev pub invariant-layers : goal.invariant-layers
invariant-layers g l = record {
  reads : l.reads.count ≡ l.initial.reads.count + l.depth;
  items : items_of (g.T.BitSetLike.holds l.set) (rev_left l.cursor) ≡ members_below (start_over l.end (LAYERS - l.depth)) (g.T.BitSetLike.holds l.set);
  from_set : AllAreSet (g.T.BitSetLike.word l.set) (rev_left l.cursor);
  below : IsRevEmptyBelow l.cursor (LAYERS - l.depth);
}
