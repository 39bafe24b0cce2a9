use Rattle.hibitset_base.specs.Cursor.{cursor_places}
use Rattle.hibitset_atomic.specs.SharedWalk.{view_of, set_of, seat_of, loads_of, IsReady, IsDue}
use Rattle.hibitset_atomic.proofs.SharedStepLemmas.{root_left, root_stands, root_under}
use Rattle.hibitset_atomic.proofs.shared.types.SharedBitSet.walk.Goals as goal

pub returns-clause-ready : goal.returns-clause-ready
unfolding IsReady set_of seat_of loads_of
returns-clause-ready c = (
  c.requires,
  root_stands (view_of c.args.seat.now) c.none.result.count (cursor_places c.at_top.result) c.none.ensures (root_left (cursor_places c.at_top.result) c.at_top.ensures.left),
)

pub returns-clause-due : goal.returns-clause-due
unfolding IsDue set_of seat_of
returns-clause-due c i sure = (sure, root_under c.args.self.now c.args.seat.now (cursor_places c.at_top.result) i (root_left (cursor_places c.at_top.result) c.at_top.ensures.left) sure)
