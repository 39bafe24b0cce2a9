-- Members that stay or are taken out, one after another.
use Rattle.std.proofs.Common.{◌≡◌, ◌≢◌, ℕ, zero, suc, ◌+◌, ◌-◌, ◌<◌, ◌≤◌, Bool, true, false, List, [], ◌∷◌, refl, sym, ◌∙◌, ap, ap₂, subst, arith, inl, inr}
use Rattle.std.proofs.lemmas.Bool.{cases_lt}
use Rattle.std.proofs.lemmas.Bool.Decides.{nat_tests}
use Rattle.hibitset_base.specs.Connectives.{is_member}
use Rattle.hibitset_base.specs.Decisions.{same_or_not}
use Rattle.hibitset_base.specs.Members.{members, members_below}
use Rattle.hibitset_base.specs.declared.util.TheConstants.{MAX_EID}
use Rattle.hibitset_base.proofs.MemberLemmas.{true_or_false}
use Rattle.hibitset_base.proofs.FirstLemmas.{first_in, none_in}

-- what is left after the first of some members
rest_after : (p : ℕ → Bool) (a n x : ℕ) (rest : List ℕ) → members p a n ≡ x ∷ rest → rest ≡ members p (suc x) (a + n - suc x)
unfolding members
rest_after p a zero x rest e = absurd (cc)
rest_after p a (suc n) x rest e = elim (true_or_false (p a)) [
  | inl on ↦
      let here : a ∷ members p (suc a) n ≡ x ∷ rest = rw on at e in
      let same : a ≡ x = cc in
      let all : rest ≡ members p (suc a) n = cc in
      let place : suc a ≡ suc x = ap suc same in
      let count : n ≡ a + suc n - suc x = omega (arith, same) in
      all ∙ ap₂ (members p) place count
  | inr off ↦
      let later : rest ≡ members p (suc x) (suc a + n - suc x) = rest_after p (suc a) n x rest (rw off at e) in
      let count : suc a + n - suc x ≡ a + suc n - suc x = omega arith in
      later ∙ ap (members p (suc x)) count
]

-- Each member before a number has got its answer, and what is left to look at are those from there on. No other number
-- has changed.
pub record RetainedTo (bound : ℕ) (answers : ℕ → Bool → Type 0) (old now : ℕ → Bool) (left : List ℕ) (from : ℕ) : Type 0 where
  pub upto : from ≤ bound
  pub left_is : left ≡ members old from (bound - from)
  pub same : (i : ℕ) → from ≤ i → now i ≡ old i
  pub answered : (i : ℕ) → i < from → old i ≡ true → answers i (now i)
  pub others : (i : ℕ) → i < from → old i ≡ false → now i ≡ old i

pub retained_none : (bound : ℕ) (answers : ℕ → Bool → Type 0) (old : ℕ → Bool) (left : List ℕ) → left ≡ members_below bound old → RetainedTo bound answers old old left 0
retained_none bound answers old left all = record {
  upto = omega arith;
  left_is = all ∙ ap (members old 0) (let e : bound ≡ bound - 0 = omega arith in e);
  same = λ i from. refl;
  answered = λ i before. absurd (omega (arith, before));
  others = λ i before off. refl;
}

-- one more has got its answer
pub retained_more : (bound : ℕ) (answers : ℕ → Bool → Type 0) (old now new : ℕ → Bool) (left rest : List ℕ) (from x : ℕ) → RetainedTo bound answers old now left from → left ≡ x ∷ rest → (now x ≡ true → answers x (new x))
    → ((i : ℕ) → i ≢ x → new i ≡ now i) → RetainedTo bound answers old new rest (x + 1)
retained_more bound answers old now new left rest from x so_far gave answer kept =
    let upto = so_far.upto in
    let list : members old from (bound - from) ≡ x ∷ rest = sym so_far.left_is ∙ gave in
    let first = first_in old from (bound - from) x rest list in
    let low = first.from in
    let high = first.within in
    let next : suc x ≡ x + 1 = omega arith in
    let count : from + (bound - from) - suc x ≡ bound - (x + 1) = omega (arith, upto) in
    record {
      upto = omega (arith, high, upto);
      left_is = rest_after old from (bound - from) x rest list ∙ ap₂ (members old) next count;
      same = λ i after. kept i (omega (arith, after)) ∙ so_far.same i (omega (arith, after, low));
      answered = λ i before on. elim (same_or_not i x) [
        | inl is ↦ rw is (answer (so_far.same x low ∙ first.stands))
        | inr other ↦ elim (cases_lt i from) [
          | inl earlier ↦ subst (λ b. answers i b) (sym (kept i other)) (so_far.answered i earlier on)
          | inr later ↦ absurd (let off = first.none_before i later (omega (arith, before, other)) in let wrong : true ≡ false = sym on ∙ off in cc)
        ]
      ];
      others = λ i before off. elim (same_or_not i x) [
        | inl is ↦ absurd (let on : old i ≡ true = rw is first.stands in let wrong : true ≡ false = sym on ∙ off in cc)
        | inr other ↦ kept i other ∙ elim (cases_lt i from) [
          | inl earlier ↦ so_far.others i earlier off
          | inr later ↦ so_far.same i later
        ]
      ];
    }

-- where nothing is left, all have
pub all_answered : (bound : ℕ) (answers : ℕ → Bool → Type 0) (old now : ℕ → Bool) (left : List ℕ) (from : ℕ) → RetainedTo bound answers old now left from → left ≡ [] → (i : ℕ) → i < bound → old i ≡ true → answers i (now i)
all_answered bound answers old now left from done none i below on = elim (cases_lt i from) [
  | inl earlier ↦ done.answered i earlier on
  | inr later ↦ absurd (
      let upto = done.upto in
      let off = none_in old from (bound - from) (sym done.left_is ∙ none) i later (omega (arith, below, upto)) in
      let wrong : true ≡ false = sym on ∙ off in
      cc)
]

no_member : (holds : ℕ → Bool) (i : ℕ) → i < MAX_EID → is_member holds i ≡ false → holds i ≡ false
no_member holds i below none = grind (arith, nat_tests)

pub others_stay : (answers : ℕ → Bool → Type 0) (old now : ℕ → Bool) (left : List ℕ) (from : ℕ) → RetainedTo MAX_EID answers old now left from → (i : ℕ) → is_member old i ≡ false → now i ≡ old i
others_stay answers old now left from done i none = elim (cases_lt i from) [
  | inl earlier ↦ done.others i earlier (no_member old i (let upto = done.upto in omega (arith, upto, earlier)) none)
  | inr later ↦ done.same i later
]
