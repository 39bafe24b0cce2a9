use Rattle.std.proofs.Common.{length, ap, ◌∙◌}
use Rattle.hibitset_sparse.specs.SparseBitSet.{has, word_of}
use Rattle.hibitset_sparse.proofs.MembersOfLemmas.{members-are}
use Rattle.hibitset_sparse.proofs.set.SparseBitSet.len.Goals as goal

pub returns : goal.returns
unfolding has word_of
returns c = c.count_members.ensures ∙ ap length (members-are c.args.self.now.chunks)
