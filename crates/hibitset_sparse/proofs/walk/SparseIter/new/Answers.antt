use Rattle.std.proofs.Common.{refl, ◌∙◌}
use Rattle.hibitset_sparse.specs.Walk.{items_left}
use Rattle.hibitset_sparse.proofs.WalkLemmas.{group-over}
use Rattle.hibitset_sparse.proofs.walk.SparseIter.new.Goals as goal

pub returns : goal.returns
unfolding items_left
returns c = group-over 0 0 _ refl ∙ c.new.ensures
