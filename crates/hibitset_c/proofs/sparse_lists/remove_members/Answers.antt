use Rattle.hibitset_c.proofs.SparseLemmas.{within}
use Rattle.hibitset_c.proofs.sparse_lists.remove_members.Goals as goal

pub remove_list-requires : goal.remove_list-requires
remove_list-requires c = within c.args.members.now
