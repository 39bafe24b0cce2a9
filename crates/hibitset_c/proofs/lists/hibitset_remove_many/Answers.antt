use Rattle.hibitset.proofs.WithinLemmas.{has_within}
use Rattle.hibitset_c.proofs.lists.hibitset_remove_many.Goals as goal

pub remove_list-count-requires : goal.remove_list-count-requires
remove_list-count-requires c = has_within c.as_mut-bits.result.now
