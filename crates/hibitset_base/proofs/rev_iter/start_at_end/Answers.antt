use Rattle.hibitset_base.proofs.TopLemmas.{under_top}
use Rattle.hibitset_base.proofs.rev_iter.start_at_end.Goals as goal

pub returns-clause-start : goal.returns-clause-start
returns-clause-start g c = rw (c.push_bits.ensures.left, c.empty-cursor.ensures.left, c.read-word.ensures.word) (under_top (g.T.BitSetLike.holds c.args.set.now) (g.T.BitSetLike.word c.args.set.now) (g.met.T.BitSetLike.lawful c.args.set.now))
