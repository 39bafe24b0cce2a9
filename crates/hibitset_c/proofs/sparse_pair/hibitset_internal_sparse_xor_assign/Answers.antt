use Rattle.std.proofs.Common.{◌≡◌, [], Some, sym, subst}
use Rattle.hibitset_base.specs.Connectives.{IsSymmetricDifference}
use Rattle.hibitset_base.specs.Members.{members_below}
use Rattle.hibitset_base.specs.declared.util.TheConstants.{MAX_EID}
use Rattle.hibitset_c.specs.Sparse.{has, has_in}
use Rattle.hibitset_c.specs.declared.set_or_seat.SetOrSeat.TheVariants.{Sparse}
use Rattle.hibitset_c.proofs.SparseLemmas.{content_is, xor_none}
use Rattle.hibitset_c.proofs.sparse_pair.hibitset_internal_sparse_xor_assign.Goals as goal

pub returns-then-is_empty-clause-members : goal.returns-then-is_empty-clause-members
returns-then-is_empty-clause-members c = λ _.
    let is = content_is c.args.other.now.handle.content c.as_mut.result.now c.in-Sparse.others c.as_mut.ensures.value c.in-Sparse.is in
    let old = has c.args.set.now in
    subst (λ k. IsSymmetricDifference old (has_in k) old) (sym is) (xor_none old (Some (Sparse c.in-Sparse.others)) (c.is_empty.ensures.0 c.if-is_empty.true))

pub returns-then-not-make-clause-succeeds_empty : goal.returns-then-not-make-clause-succeeds_empty
returns-then-not-make-clause-succeeds_empty c = λ none.
    let is = content_is c.args.other.now.handle.content c.as_mut.result.now c.in-Sparse.others c.as_mut.ensures.value c.in-Sparse.is in
    let yes = c.is_empty.ensures.1 (subst (λ k. members_below MAX_EID (has_in k) ≡ []) is none) in
    let no = c.if-is_empty.false in absurd cc

pub returns-in-Err-clause-succeeds_empty : goal.returns-in-Err-clause-succeeds_empty
returns-in-Err-clause-succeeds_empty c = λ none.
    let is = content_is c.args.other.now.handle.content c.as_mut.result.now c.in-Sparse.others c.as_mut.ensures.value c.in-Sparse.is in
    let yes = c.is_empty.ensures.1 (subst (λ k. members_below MAX_EID (has_in k) ≡ []) is none) in
    let no = c.if-is_empty.false in absurd cc
