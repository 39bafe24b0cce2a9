use Rattle.std.proofs.Common.{◌≡◌, ◌++◌}
use Rattle.hibitset_base.specs.Walk.{items_left}
use Rattle.hibitset_base.specs.Members.{members_below}
use Rattle.hibitset_base.specs.declared.util.TheConstants.{MAX_EID}
use Rattle.hibitset.specs.BitSet.{has}
use Rattle.hibitset_tests.proofs.tests.callers.looped.Given as goal

abbrev pub invariant-loop-index : goal.invariant-loop-index
invariant-loop-index l = l.list.items ++ items_left (λ s. has s.now) l.index-iterator ≡ members_below MAX_EID (has l.set)
