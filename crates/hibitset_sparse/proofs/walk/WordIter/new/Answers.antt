use Rattle.std.proofs.Common.{refl}
use Rattle.hibitset_sparse.specs.Walk.{members_left, members_of}
use Rattle.hibitset_sparse.proofs.walk.WordIter.new.Goals as goal

pub returns : goal.returns
unfolding members_left members_of
returns c = rw (c.empty.ensures, c.new.ensures) refl
