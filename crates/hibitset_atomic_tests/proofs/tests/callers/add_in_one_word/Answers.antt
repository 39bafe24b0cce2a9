use Rattle.std.proofs.Common.{inr, arith}
use Rattle.hibitset_atomic.proofs.SparedLemmas.{spared-below}
use Rattle.hibitset_atomic_tests.proofs.tests.callers.add_in_one_word.Goals as goal

pub returns-clause-exchanges : goal.returns-clause-exchanges
returns-clause-exchanges c =
    let few = spared-below c.args.set.now c.add_atomic.new.seat c.add_atomic-2.new.seat c.args.second c.args.first 1 c.add_atomic-2.ensures.spares_shared (inr c.add_atomic.ensures.known) (omega (arith, c.requires.word)) in
    omega (arith, few, c.add_atomic.ensures.exchanges)
