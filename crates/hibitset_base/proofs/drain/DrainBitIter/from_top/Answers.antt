use Rattle.hibitset_base.proofs.RunLemmas.{drain_runs, few_items}
use Rattle.hibitset_base.specs.Drain.{items_to_drain}
use Rattle.hibitset_base.proofs.drain.DrainBitIter.from_top.Goals as goal

pub returns-clause-runs : goal.returns-clause-runs
returns-clause-runs g c = drain_runs g.T.BitSetLike.holds g.T.DrainableBitSet.keeps_room

pub returns-clause-fits : goal.returns-clause-fits
unfolding items_to_drain
returns-clause-fits g c = few_items _ c.root_cursor-cursor.ensures.start.items
