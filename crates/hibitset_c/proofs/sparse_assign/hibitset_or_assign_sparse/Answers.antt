use Rattle.std.proofs.Common.{◌≡◌, ℕ, ◌≤◌, Some, sym, ap, ap₂, subst, ◌∙◌}
use mathlib.Core.Bool.{◌||◌, true≢false}
use Rattle.hibitset_base.specs.Connectives.{IsUnion}
use Rattle.hibitset.specs.BitSet.{has as bits_have, slice_len}
use Rattle.hibitset.specs.Extension.{MembersEndBy}
use Rattle.hibitset.specs.Merge.{NoWordsFrom}
use Rattle.hibitset_sparse.specs.SparseBitSet.{has as sparse_has, word_of}
use Rattle.hibitset_c.specs.Set.{has, has_in as set_has, layer0_len}
use Rattle.hibitset_c.specs.Sparse.{has_in}
use Rattle.hibitset_c.specs.Words.{len_of}
use Rattle.hibitset_c.specs.declared.set_or_seat.SetOrSeat.TheVariants.{Sparse}
use Rattle.hibitset_c.proofs.SparseLemmas.{content_is, no_end, sparse_members, sparse_ends, or_none}
use Rattle.hibitset_c.proofs.sparse_assign.hibitset_or_assign_sparse.Goals as goal

pub returns-then-is_empty-clause-members : goal.returns-then-is_empty-clause-members
returns-then-is_empty-clause-members c = λ _.
    let is = content_is c.args.other.now.handle.content c.as_mut.result.now c.in-Sparse.members c.as_mut.ensures.value c.in-Sparse.is in
    let old = has c.args.set.now in
    subst (λ k. IsUnion old (has_in k) old) (sym is) (or_none old (Some (Sparse c.in-Sparse.members)) (c.is_empty.ensures.0 c.if-is_empty.true))

pub returns-then-not-make-clause-succeeds : goal.returns-then-not-make-clause-succeeds
returns-then-not-make-clause-succeeds c = λ ends.
    let is = content_is c.args.other.now.handle.content c.as_mut.result.now c.in-Sparse.members c.as_mut.ensures.value c.in-Sparse.is in
    let below = subst (λ k. MembersEndBy (has_in k) (layer0_len c.args.set.now)) is ends in
    let yes = c.is_empty.ensures.1 (no_end c.in-Sparse.members (subst (MembersEndBy (sparse_has c.in-Sparse.members)) (c.make.ensures.err c.if-not-make.true) below)) in
    let no = c.if-is_empty.false in absurd cc

pub returns-in-Ok-clause-members : goal.returns-in-Ok-clause-members
returns-in-Ok-clause-members c = λ _.
    let is = content_is c.args.other.now.handle.content c.as_mut.result.now c.in-Sparse.members c.as_mut.ensures.value c.in-Sparse.is in
    let was : (i : ℕ) → bits_have c.as_mut-bits.result.now i ≡ has c.args.set.now i = λ i. ap (λ s. set_has s i) (sym c.as_mut-bits.ensures.value) ∙ c.make.ensures.members i in
    subst (λ k. IsUnion (has c.args.set.now) (has_in k) (bits_have c.bitor_assign-done.new.self)) (sym is)
    (λ i. c.in-Ok.ensures.members i ∙ ap₂ (λ a b. a || b) (was i) (sparse_members c.in-Sparse.members i))

pub returns-in-Ok-clause-len_max : goal.returns-in-Ok-clause-len_max
returns-in-Ok-clause-len_max c = λ end old ends.
    let is = content_is c.args.other.now.handle.content c.as_mut.result.now c.in-Sparse.members c.as_mut.ensures.value c.in-Sparse.is in
    let len : slice_len c.as_mut-bits.result.now 0 ≡ layer0_len c.args.set.now = ap (λ s. len_of s 0) (sym c.as_mut-bits.ensures.value) ∙ c.make.ensures.length in
    c.in-Ok.ensures.len_max end (subst (λ n. n ≤ end) (sym len) old) (sparse_ends c.in-Sparse.members end (subst (λ k. MembersEndBy (has_in k) end) is ends))

pub returns-in-Err-clause-succeeds : goal.returns-in-Err-clause-succeeds
returns-in-Err-clause-succeeds c = λ ends.
    let is = content_is c.args.other.now.handle.content c.as_mut.result.now c.in-Sparse.members c.as_mut.ensures.value c.in-Sparse.is in
    let below = subst (λ k. MembersEndBy (has_in k) (layer0_len c.args.set.now)) is ends in
    let len : slice_len c.as_mut-bits.result.now 0 ≡ layer0_len c.args.set.now = ap (λ s. len_of s 0) (sym c.as_mut-bits.ensures.value) ∙ c.make.ensures.length in
    absurd (true≢false (sym (c.in-Err.ensures.succeeds (subst (NoWordsFrom (word_of c.in-Sparse.members)) (sym len) (sparse_ends c.in-Sparse.members (layer0_len c.args.set.now) below)))))
