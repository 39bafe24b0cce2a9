-- What a contract sees of a walk over a whole set.
use Rattle.std.specs.Prelude.{◌≡◌, ◌≤◌, length}
use Rattle.std.specs.Iterator.{YieldsFirst}
use Rattle.std.specs.Iterator.Runs.{YieldsInOrder}
use Rattle.hibitset_base.specs.Members.{members_below}
use Rattle.hibitset_base.specs.declared.util.TheConstants.{MAX_EID}
use Rattle.hibitset_sparse.specs.SparseBitSet.{has}
use Rattle.hibitset_sparse.specs.Walk.{items_left}
use Rattle.hibitset_sparse.specs.declared.set.SparseBitSet.{SparseBitSet}
use Rattle.hibitset_sparse.specs.declared.walk.SparseIter.{SparseIter}

-- The walk has all members of the set to give, in ascending order.
pub record GivesMembers (set : SparseBitSet) (walk : SparseIter) : Type 0 where
  pub items : items_left walk ≡ members_below MAX_EID (has set)
  pub runs : YieldsInOrder (YieldsFirst items_left) items_left
  pub fits : length (items_left walk) ≤ MAX_EID
