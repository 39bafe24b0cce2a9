use Rattle.std.proofs.Common.{refl}
use Rattle.hibitset_sparse.specs.Walk.{entries_left}
use Rattle.hibitset_sparse.proofs.WalkLemmas.{group-over}
use Rattle.hibitset_sparse.proofs.table_iter.TableIter.new.Goals as goal

pub returns : goal.returns
unfolding entries_left
returns g c = rw (c.deref.ensures.value, c.deref-2.ensures.value, group-over 0 0 _ refl) refl
