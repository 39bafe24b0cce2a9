use Rattle.std.proofs.Common.{ap, ◌∙◌}
use Rattle.std.specs.Prelude.{slice_get}
use Rattle.hibitset_sparse.specs.SparseBitSet.{has, word_of}
use Rattle.hibitset_sparse.proofs.MembersOfLemmas.{members-are}
use Rattle.hibitset_sparse.proofs.set.SparseBitSet.select.Goals as goal

pub returns : goal.returns
unfolding has word_of
returns c = c.nth_member.ensures ∙ ap (λ xs. slice_get xs c.args.at) (members-are c.args.self.now.chunks)
