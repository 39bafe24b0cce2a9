use Rattle.std.proofs.Common.{◌∙◌}
use Rattle.std.proofs.lemmas.Result.{IfOk-weaker}
use Rattle.hibitset_sparse.specs.SparseBitSet.{has}
use Rattle.hibitset_roaring.proofs.SinkLemmas.{member_within}
use Rattle.hibitset_roaring.proofs.laws.round_trip_sparse.Goals as goal

pub returns-clause-members : goal.returns-clause-members
returns-clause-members c =
    let set = c.args.set.now in
    let stream = c.in_ok-bytes.ensures.stream in
    IfOk-weaker c.read_sparse.result _ _ (λ copy is i. is i ∙ (stream.plain.members i ∙ member_within (has set) (c.sparse_laws.ensures.in_range set) i)) (rw c.deref.ensures.value at c.read_sparse.ensures.members)
