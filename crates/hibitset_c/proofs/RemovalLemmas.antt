-- A list whose indices are removed one by one.
use Rattle.std.proofs.Common.{◌≡◌, ◌≢◌, ℕ, ◌+◌, ◌<◌, ◌≤◌, Bool, true, false, ◌==◌, ◌&&◌, not, List, [], ◌∷◌, ◌++◌, take, length, slice_index, Contains, inl, inr, sym, ap, ◌∙◌, subst, arith}
use Rattle.std.proofs.lemmas.Bool.Decides.{nat_tests}
use Rattle.std.proofs.lemmas.List.{take_all, take_more}
use Rattle.std.proofs.lemmas.List.Elements.{Contains-append_left, Contains-push, Contains-push_cases}
use Rattle.hibitset_base.specs.Members.{members_below}
use Rattle.hibitset_base.specs.declared.util.TheConstants.{MAX_EID}
use Rattle.hibitset_base.proofs.MemberLemmas.{members-same}
use Rattle.hibitset.proofs.MemberCountLemmas.{members-without}
use Rattle.hibitset_c.specs.List.{RemovesAll}

apart : (was : Bool) (i x : ℕ) → (was && not (i == x)) ≡ true → (was ≡ true) × (i ≢ x)
apart was i x on = (grind (arith, nat_tests), λ here. let h = on in grind (arith, nat_tests))

stays : (was : Bool) (i x : ℕ) → was ≡ true → i ≢ x → (was && not (i == x)) ≡ true
stays was i x on other = grind (arith, nat_tests)

same : (was : Bool) (i x : ℕ) → (i ≡ x → was ≡ false) → (was && not (i == x)) ≡ was
same was i x clear = grind (arith, nat_tests)

pub removes_none : (list : List ℕ) (old : ℕ → Bool) → RemovesAll (take 0 list) old old
removes_none list old i = (λ on. (on, λ none. let k = none.1 in omega (arith, k)), λ h. h.0)

-- of a list of which all is taken
pub removes_whole : (list : List ℕ) (count : ℕ) (old new : ℕ → Bool) → length list ≤ count → RemovesAll (take count list) old new → RemovesAll list old new
removes_whole list count old new all removes = subst (λ l. RemovesAll l old new) (take_all count list all) removes

module _ (list : List ℕ) (count : ℕ) (below : count < length list) where
  pub removes_next : (old middle new : ℕ → Bool) → RemovesAll (take count list) old middle → ((i : ℕ) → new i ≡ (middle i && not (i == slice_index list count))) → RemovesAll (take (count + 1) list) old new
  removes_next old middle new before removed i =
      let x = slice_index list count in let more = take_more list count 0 below in (
        λ on.
            let both = apart (middle i) i x (sym (removed i) ∙ on) in
            let was = (before i).0 both.0 in
            (was.0, λ h. elim (Contains-push_cases (take count list) x i (subst (λ l. Contains l i) more h)) [ inl first ↦ was.1 first | inr here ↦ both.1 (sym here) ]),
        λ h.
            let lacks : ¬ Contains (take count list ++ x ∷ []) i = subst (λ l. ¬ Contains l i) more h.1 in
            let stayed = (before i).1 (h.0, λ first. lacks (Contains-append_left (take count list) (x ∷ []) i first)) in
            removed i ∙ stays (middle i) i x stayed (λ here. lacks (subst (Contains (take count list ++ x ∷ [])) (sym here) (Contains-push (take count list) x))),
      )

-- How many members are left, and how many are gone.
module _ (middle new : ℕ → Bool) (x total count : ℕ) (removed : (i : ℕ) → new i ≡ (middle i && not (i == x))) (before : total ≡ count + length (members_below MAX_EID middle)) where
  pub one_less : middle x ≡ true → x < MAX_EID → total ≡ count + 1 + length (members_below MAX_EID new)
  one_less there below = let one = members-without middle new x MAX_EID removed there below in omega (arith, one, before)

  pub none_less : middle x ≡ false → total ≡ count + length (members_below MAX_EID new)
  none_less clear =
      let still = ap length (members-same new middle 0 MAX_EID (λ i from below. removed i ∙ same (middle i) i x (λ here. ap middle here ∙ clear))) in
      omega (arith, still, before)

-- what is left lies where all lay
pub still_within : (middle new : ℕ → Bool) (x : ℕ) → ((i : ℕ) → new i ≡ (middle i && not (i == x))) → ((i : ℕ) → middle i ≡ true → i < MAX_EID) → (i : ℕ) → new i ≡ true → i < MAX_EID
still_within middle new x removed within i on = within i (apart (middle i) i x (sym (removed i) ∙ on)).0
