use Rattle.std.proofs.Common.{length}
use Rattle.hibitset_base.specs.WordsRead.{words_of}
use Rattle.hibitset_base.specs.RevCursor.{rev_left}
use Rattle.hibitset_base.specs.RevPlaces.{GoesBack}
use Rattle.hibitset_base.specs.declared.util.TheConstants.{LAYERS}
use Rattle.hibitset_base.proofs.rev_iter.previous_index.Given as goal

abbrev pub invariant-layers : goal.invariant-layers
invariant-layers g l = GoesBack LAYERS (g.T.BitSetLike.holds l.set) (g.T.BitSetLike.word l.set) l.initial.reads.count (rev_left l.initial.cursor) l.reads.count (rev_left l.cursor)

abbrev pub decreases-layers : goal.decreases-layers
decreases-layers g l = length (words_of (g.T.BitSetLike.word l.set) (rev_left l.cursor))
