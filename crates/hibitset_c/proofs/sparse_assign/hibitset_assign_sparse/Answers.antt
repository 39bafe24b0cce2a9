use Rattle.std.proofs.Common.{◌≡◌, ℕ, sym, subst, ◌∙◌}
use Rattle.hibitset.specs.Extension.{MembersEndBy}
use Rattle.hibitset_c.specs.Set.{has}
use Rattle.hibitset_c.specs.Sparse.{has_in}
use Rattle.hibitset_c.proofs.SparseLemmas.{content_is, sparse_members, sparse_ends}
use Rattle.hibitset_c.proofs.sparse_assign.hibitset_assign_sparse.Goals as goal

pub returns-clause-members : goal.returns-clause-members
returns-clause-members c = λ ok.
    let is = content_is c.args.other.now.handle.content c.as_mut.result.now c.in-Sparse.members c.as_mut.ensures.value c.in-Sparse.is in
    subst (λ k. (i : ℕ) → has c.make_of.new.out i ≡ has_in k i) (sym is) (λ i. c.make_of.ensures.members ok i ∙ sparse_members c.in-Sparse.members i)

pub returns-clause-len_max : goal.returns-clause-len_max
returns-clause-len_max c = λ ok end ends.
    let is = content_is c.args.other.now.handle.content c.as_mut.result.now c.in-Sparse.members c.as_mut.ensures.value c.in-Sparse.is in
    c.make_of.ensures.len_max ok end (sparse_ends c.in-Sparse.members end (subst (λ k. MembersEndBy (has_in k) end) is ends))
