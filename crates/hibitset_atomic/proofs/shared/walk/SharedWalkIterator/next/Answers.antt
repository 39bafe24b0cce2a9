use Rattle.std.proofs.Common.{refl}
use Rattle.hibitset_atomic.specs.SharedWalk.{set_of, seat_of, loads_of}
use Rattle.hibitset_atomic.proofs.SharedStepLemmas.{shared_steps, nearer_end}
use Rattle.hibitset_atomic.proofs.shared.walk.SharedWalkIterator.next.Goals as goal

pub returns-clause-steps : goal.returns-clause-steps
unfolding set_of seat_of loads_of
returns-clause-steps c = shared_steps c.args.self.now _ refl refl c.requires c.next_index.result c.next_index.ensures.end c.next_index.ensures.goes c.next_index.ensures.before

pub returns-clause-goes : goal.returns-clause-goes
returns-clause-goes c = nearer_end c.args.self.now _ c.next_index.result (returns-clause-steps c)
