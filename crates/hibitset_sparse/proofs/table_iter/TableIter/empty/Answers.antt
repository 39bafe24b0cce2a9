use Rattle.hibitset_sparse.specs.Walk.{entries_left}
use Rattle.hibitset_sparse.proofs.WalkLemmas.{zip-none}
use Rattle.hibitset_sparse.proofs.table_iter.TableIter.empty.Goals as goal

pub returns : goal.returns
unfolding entries_left
returns g c = zip-none _
