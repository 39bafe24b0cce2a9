use Rattle.std.proofs.lemmas.Result.{IfOk-weaker}
use Rattle.hibitset.specs.Prelude.{MAX_EID}
use Rattle.hibitset.proofs.CallerLemmas.{members_ascend, members_contain}
use Rattle.uses.proofs.filter.Tagged.find.Goals as goal

pub returns-clause-ascending : goal.returns-clause-ascending
returns-clause-ascending c = IfOk-weaker c.to_vec.result _ _ (λ found same. rw same (members_ascend MAX_EID _)) c.to_vec.ensures

pub returns-clause-found : goal.returns-clause-found
returns-clause-found c = IfOk-weaker c.to_vec.result _ _ (λ found same. rw same (members_contain MAX_EID _)) (rw c.wanted.ensures at c.to_vec.ensures)
