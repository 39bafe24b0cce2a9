use Rattle.std.proofs.Common.{refl}
use Rattle.hibitset_base.proofs.RevWalkLemmas.{steps_back}
use Rattle.hibitset_base.proofs.rev_iter.BitRevIterIterator.next.Goals as goal

pub returns-clause-steps : goal.returns-clause-steps
returns-clause-steps g c = steps_back g.T.BitSetLike.holds g.T.BitSetLike.word c.args.self.now _ refl c.previous_index.result c.previous_index.ensures.end c.previous_index.ensures.goes
