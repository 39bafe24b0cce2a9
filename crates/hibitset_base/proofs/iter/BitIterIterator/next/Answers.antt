use Rattle.std.proofs.Common.{refl}
use Rattle.hibitset_base.proofs.StepLemmas.{walk_steps}
use Rattle.hibitset_base.proofs.iter.BitIterIterator.next.Goals as goal

pub returns-clause-steps : goal.returns-clause-steps
returns-clause-steps g c = walk_steps g.T.BitSetLike.holds g.T.BitSetLike.word c.args.self.now _ refl c.next_index.result c.next_index.ensures.end c.next_index.ensures.goes
