use Rattle.std.proofs.Common.{◌≡◌, ◌++◌}
use Rattle.hibitset_store.specs.Columns.{value_of}
use Rattle.hibitset_store.specs.Joins.{join_of}
use Rattle.hibitset_store.specs.Walks.{pairs_left}
use Rattle.hibitset_run.proofs.store.list_of.Given as goal

-- the pairs so far and those that the join has left
abbrev pub invariant-loop-id : goal.invariant-loop-id
invariant-loop-id l = l.list.items ++ pairs_left l.id-iterator ≡ join_of (value_of l.first) (value_of l.second)
