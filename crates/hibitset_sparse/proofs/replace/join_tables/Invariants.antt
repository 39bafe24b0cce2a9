use Rattle.hibitset_sparse.proofs.JoinLemmas.{AreJoinedTo}
use Rattle.hibitset_sparse.proofs.replace.join_tables.Given as goal

abbrev pub invariant-groups : goal.invariant-groups
invariant-groups l = AreJoinedTo l.q l.fn.first l.fn.second l.left l.right l.table
