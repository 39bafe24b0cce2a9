use Rattle.hibitset_base.specs.Cursor.{cursor_places}
use Rattle.hibitset_base.specs.WordsRead.{depth}
use Rattle.hibitset_atomic.specs.SharedWalk.{LoadsTo}
use Rattle.hibitset_atomic.proofs.shared.walk.next_index.Given as goal

abbrev pub invariant-places : goal.invariant-places
invariant-places l = LoadsTo l.set l.initial.seat l.seat l.initial.reads.count (cursor_places l.initial.cursor) l.reads.count (cursor_places l.cursor)

abbrev pub decreases-places : goal.decreases-places
decreases-places l = depth (cursor_places l.cursor)
