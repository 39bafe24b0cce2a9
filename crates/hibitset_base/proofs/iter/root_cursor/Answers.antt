use Rattle.hibitset_base.proofs.TopLemmas.{under_top}
use Rattle.hibitset_base.proofs.iter.root_cursor.Goals as goal

pub returns-clause-start : goal.returns-clause-start
returns-clause-start g c = rw (c.at_top.ensures.left, c.read.ensures.word) (under_top (g.T.BitSetLike.holds c.args.set.now) (g.T.BitSetLike.word c.args.set.now) (g.met.T.BitSetLike.lawful c.args.set.now))
