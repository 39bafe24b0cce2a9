use Rattle.hibitset.specs.BitSet.{has}
use Rattle.hibitset_tests.proofs.tests.callers.ends.Goals as goal

pub returns-clause-head : goal.returns-clause-head
returns-clause-head c = c.list_laws.ensures.first (has c.args.set.now) _ c.in_ok-first.ensures
