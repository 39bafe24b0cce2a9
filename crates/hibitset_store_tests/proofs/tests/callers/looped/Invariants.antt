use Rattle.std.proofs.Common.{◌≡◌, ◌++◌, map}
use Rattle.hibitset_store.specs.Columns.{value_of}
use Rattle.hibitset_store.specs.Joins.{join_of, seen}
use Rattle.hibitset_store.specs.Walks.{pairs_left}
use Rattle.hibitset_store_tests.proofs.tests.callers.looped.Given as goal

-- the items so far and the pairs that the join has left
abbrev pub invariant-loop-item : goal.invariant-loop-item
invariant-loop-item g l = map seen l.list.items ++ pairs_left l.item-iterator ≡ join_of (value_of l.a) (value_of l.b)
