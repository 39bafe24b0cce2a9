use Rattle.hibitset_sparse.proofs.JoinLemmas.{CoversBut}
use Rattle.hibitset_sparse.proofs.table.Table.covers.Given as goal

abbrev pub invariant-groups : goal.invariant-groups
invariant-groups g l = CoversBut l.fn.self l.fn.other l.left

abbrev pub decreases-groups : goal.decreases-groups
decreases-groups g l = l.left
