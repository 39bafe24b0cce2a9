use Rattle.std.proofs.Common.{◌↔◌, Some, sym, subst, ◌∙◌}
use Rattle.std.specs.Prelude.{IsTrue}
use Rattle.hibitset_base.specs.Connectives.{IsSubset}
use Rattle.hibitset_base.specs.declared.util.TheConstants.{MAX_EID}
use Rattle.hibitset_c.specs.Sparse.{has_in}
use Rattle.hibitset_c.specs.declared.set_or_seat.SetOrSeat.TheVariants.{Sparse}
use Rattle.hibitset_c.proofs.SparseLemmas.{content_is, subset_of_none}
use Rattle.hibitset_c.proofs.sparse_pair.hibitset_internal_sparse_is_subset.Goals as goal

pub returns-then-not-b-clause-answer : goal.returns-then-not-b-clause-answer
returns-then-not-b-clause-answer c =
    let first = content_is c.args.a.now.handle.content c.as_mut.result.now c.in-Sparse.first c.as_mut.ensures.value c.in-Sparse.is in
    let none = subset_of_none (Some (Sparse c.in-Sparse.first)) c.args.b.now.handle.content (sym c.args.b.now.tells ∙ c.if-not-b.true) in
    subst (λ k. IsTrue c.is_empty.result ↔ IsSubset MAX_EID (has_in k) (has_in c.args.b.now.handle.content)) (sym first)
    (λ yes. none.0 (c.is_empty.ensures.0 yes), λ within. c.is_empty.ensures.1 (none.1 within))

pub returns-clause-answer : goal.returns-clause-answer
returns-clause-answer c =
    let first = content_is c.args.a.now.handle.content c.as_mut.result.now c.in-Sparse.first c.as_mut.ensures.value c.in-Sparse.is in
    let second = content_is c.args.b.now.handle.content c.as_mut-2.result.now c.in-Sparse-as_mut.second c.as_mut-2.ensures.value c.in-Sparse-as_mut.is in
    subst (λ k. IsTrue c.is_subset.result ↔ IsSubset MAX_EID (has_in k) (has_in c.args.b.now.handle.content)) (sym first)
    (subst (λ k. IsTrue c.is_subset.result ↔ IsSubset MAX_EID (has_in (Some (Sparse c.in-Sparse.first))) (has_in k)) (sym second) c.is_subset.ensures)
