use Rattle.hibitset_store_tests.proofs.tests.callers.change.Goals as goal

pub returns-in-Some-clause-changed : goal.returns-in-Some-clause-changed
returns-in-Some-clause-changed g c = λ yes. rw c.in-Some.is at (c.get_mut.follows.holds c.args.value).0
