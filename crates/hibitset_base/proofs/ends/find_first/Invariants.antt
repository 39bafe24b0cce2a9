use Rattle.std.proofs.Common.{◌-◌}
use Rattle.hibitset_base.specs.Cursor.{cursor_places, IsEmptyBelow}
use Rattle.hibitset_base.specs.WordsRead.{ReadsTo}
use Rattle.hibitset_base.specs.declared.util.TheConstants.{LAYERS}
use Rattle.hibitset_base.proofs.ends.find_first.Given as goal

abbrev pub invariant-looks : goal.invariant-looks
invariant-looks g l = record {
  goes : ReadsTo LAYERS (g.T.BitSetLike.holds l.set) (g.T.BitSetLike.word l.set) l.initial.reads.count (cursor_places l.initial.cursor) l.reads.count (cursor_places l.cursor);
  empty : IsEmptyBelow l.cursor (LAYERS - 1 - l.look);
}
