-- Sets with the same list of members.
use Rattle.std.proofs.Common.{◌≡◌, ℕ, ◌<◌, ◌==◌, Bool, length, sym, ◌∙◌, ap, arith, inl, inr}
use Rattle.std.specs.Bool.{Decides}
use Rattle.std.specs.Ordering.{on}
use Rattle.std.specs.Cmp.Lexicographic.{pointwise}
use Rattle.std.specs.Prelude.{slice_get}
use Rattle.std.proofs.lemmas.Bool.{false≢true}
use Rattle.std.proofs.lemmas.Slice.Eq.{bytes_eq-Decides}
use Rattle.hibitset_base.specs.Connectives.{IsSubset}
use Rattle.hibitset_base.specs.Members.{members_below}
use Rattle.hibitset_base.specs.declared.util.TheConstants.{MAX_EID}
use Rattle.hibitset_base.proofs.MemberLemmas.{members-same, true_or_false}
use Rattle.hibitset_base.proofs.RangeLemmas.{member_at, nth_is}

-- what is in the list of one set is in the other with the same list
listed : (p q : ℕ → Bool) → members_below MAX_EID p ≡ members_below MAX_EID q → IsSubset MAX_EID p q
listed p q same i below on =
    let at : ℕ = length (members_below i p) in
    let there = member_at MAX_EID p i below on in
    (nth_is MAX_EID at q i (ap (λ xs. slice_get xs at) (sym same) ∙ there)).stands

-- each set is a subset of the other where they have the same list
pub subsets-Decide : (p q : ℕ → Bool) → Decides (pointwise ◌==◌ (members_below MAX_EID p) (members_below MAX_EID q)) (IsSubset MAX_EID p q × IsSubset MAX_EID q p)
subsets-Decide p q =
    let lists = bytes_eq-Decides (members_below MAX_EID p) (members_below MAX_EID q) in (
      λ e. (listed p q (lists.0 e), listed q p (sym (lists.0 e))),
      λ both. lists.1 (members-same p q 0 MAX_EID (λ i from below.
          let within : i < MAX_EID = omega (arith, below) in
          elim (true_or_false (p i)) [
            | inl on ↦ on ∙ sym (both.0 i within on)
            | inr off ↦ elim (true_or_false (q i)) [
              | inl on ↦ absurd (false≢true (sym off ∙ both.1 i within on))
              | inr other ↦ off ∙ sym other
            ]
          ])),
    )
