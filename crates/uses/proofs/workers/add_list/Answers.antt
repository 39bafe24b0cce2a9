use Rattle.hibitset_atomic.proofs.ListLemmas.{has-from_contains}
use Rattle.hibitset.specs.Prelude.{reports_of}
use Rattle.uses.proofs.workers.add_list.Goals as goal

pub returns-clause-reported : goal.returns-clause-reported
returns-clause-reported c = λ i there. c.loop-id.invariant.reported i (has-from_contains (reports_of c.loop-id.seat) i there)
