use Rattle.std.proofs.Common.{length}
use Rattle.hibitset_base.specs.Cursor.{cursor_places}
use Rattle.hibitset_base.specs.WordsRead.{words_of, ReadsTo}
use Rattle.hibitset_base.specs.declared.util.TheConstants.{LAYERS}
use Rattle.hibitset_base.proofs.bulk.take_next_word.Given as goal

abbrev pub invariant-layers : goal.invariant-layers
invariant-layers g l = ReadsTo LAYERS (g.T.BitSetLike.holds l.set) (g.T.BitSetLike.word l.set) l.initial.reads.count (cursor_places l.initial.cursor) l.reads.count (cursor_places l.cursor)

abbrev pub decreases-layers : goal.decreases-layers
decreases-layers g l = length (words_of (g.T.BitSetLike.word l.set) (cursor_places l.cursor))
