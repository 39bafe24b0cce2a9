use Rattle.std.proofs.Common.{◌∙◌}
use Rattle.hibitset_sparse.specs.SparseBitSet.{has, word_of}
use Rattle.hibitset_sparse.proofs.MembersOfLemmas.{members-are}
use Rattle.hibitset_sparse.proofs.SetLemmas.{if_ok}
use Rattle.hibitset_sparse.proofs.set.SparseBitSet.to_vec.Goals as goal

pub returns : goal.returns
unfolding has word_of
returns c = if_ok c.list_members.result c.list_members.ensures (λ v is. is ∙ members-are c.args.self.now.chunks)
