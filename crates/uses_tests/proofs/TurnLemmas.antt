-- What a call of its own leaves of a past, and a list of such calls.
use Rattle.std.proofs.Common.{◌≡◌, ◌⊎◌, inl, inr, ℕ, ◌+◌, ◌<◌, ◌≤◌, Bool, true, false, ◌||◌, ◌==◌, ◌↔◌, List, [], ◌∷◌, ◌++◌, length, take, get_or, Contains, Some, None, refl, sym, ap, subst, ◌∙◌, arith}
use Rattle.std.proofs.lemmas.Bool.{or_cases, or_left, or_right, eqb-true}
use Rattle.std.proofs.lemmas.List.{take_more, take_all}
use Rattle.std.proofs.lemmas.List.Elements.{Contains-append_left, Contains-push, Contains-push_cases}
use Rattle.hibitset_base.specs.Decisions.{eq_same, same_or_not}
use Rattle.hibitset_atomic.specs.declared.steps.calls.Call.{Call}
use Rattle.hibitset_atomic.specs.declared.steps.event.Event.{Event}
use Rattle.hibitset_atomic.specs.History.{call_of, is_there}
use Rattle.hibitset_atomic.specs.HistoryFacts.{IsAtRest}

-- a call on an index that has passed so many layers
abbrev pub call_on : ℕ → ℕ → Call
call_on i passed = record { index = i; passed = passed }

-- a past is at rest where one call has passed all layers, and all others have as at rest
pub rests : (n : ℕ) (past later : List Event) (number i : ℕ) → call_of later number ≡ Some (call_on i n) → ((c : ℕ) → (number ≡ c → ⊥) → call_of later c ≡ call_of past c) → IsAtRest n past → IsAtRest n later
unfolding IsAtRest
rests n past later number i is others rest c call at = elim (same_or_not number c) [
  | inl e ↦ let same : Some (call_on i n) ≡ Some call = sym is ∙ (rw e at) in let k : call_on i n ≡ call = cc in ap (λ x. x.passed) (sym k)
  | inr ne ↦ rest c call (sym (others c ne) ∙ at)
]

-- ---- a list that is added

pub rests_none : (n : ℕ) (past : List Event) → past ≡ [] → IsAtRest n past
unfolding IsAtRest
rests_none n past none c call at = absurd (let k : None ≡ Some call = (rw none at at) in cc)

or_none : (a : Bool) → (a || false) ≡ a
or_none true = refl
or_none false = refl

pub none_put_in : (old : ℕ → Bool) (past : List Event) → past ≡ [] → (i : ℕ) → is_there old past i ≡ old i
none_put_in old past none i = rw none (or_none (old i))

-- now the set has the first indices and those of a list
abbrev pub HasList : (ℕ → Bool) → (ℕ → Bool) → List ℕ → Type 0
HasList now first list = (i : ℕ) → (now i ≡ true) ↔ ((first i ≡ true) ⊎ Contains list i)

pub members_begin : (now first : ℕ → Bool) → ((i : ℕ) → now i ≡ first i) → HasList now first []
members_begin now first same i = (
  (λ on. inl (sym (same i) ∙ on)),
  (λ h. elim h [ inl was ↦ same i ∙ was | inr none ↦ absurd (let k = none.1 in omega (arith, k)) ]),
)

pub members_more : (before now first : ℕ → Bool) (list : List ℕ) (k : ℕ) → k < length list → ((i : ℕ) → now i ≡ (before i || i == get_or list k 0)) → HasList before first (take k list) → HasList now first (take (k + 1) list)
members_more before now first list k below added members i =
    let more : take (k + 1) list ≡ take k list ++ get_or list k 0 ∷ [] = take_more list k 0 below in
    rw more (
      (λ on. elim (or_cases (before i) (i == get_or list k 0) (sym (added i) ∙ on)) [
        | inl was ↦ elim ((members i).0 was) [ inl h ↦ inl h | inr h ↦ inr (Contains-append_left (take k list) (get_or list k 0 ∷ []) i h) ]
        | inr here ↦ inr (let e : get_or list k 0 ≡ i = sym (eqb-true i (get_or list k 0) here) in subst (Contains (take k list ++ get_or list k 0 ∷ [])) e (Contains-push (take k list) (get_or list k 0)))
      ]),
      (λ h. added i ∙ elim h [
        | inl was ↦ or_left (before i) (i == get_or list k 0) ((members i).1 (inl was))
        | inr has ↦ elim (Contains-push_cases (take k list) (get_or list k 0) i has) [
          | inl before_it ↦ or_left (before i) (i == get_or list k 0) ((members i).1 (inr before_it))
          | inr e ↦ or_right (before i) (i == get_or list k 0) (eq_same i (get_or list k 0) (sym e))
        ]
      ]),
    )

pub members_all : (all now first : ℕ → Bool) (list : List ℕ) (k : ℕ) → length list ≤ k → ((i : ℕ) → all i ≡ now i) → HasList now first (take k list) → HasList all first list
members_all all now first list k past same members i =
    let whole : take k list ≡ list = take_all k list past in
    let here : (now i ≡ true) ↔ ((first i ≡ true) ⊎ Contains list i) = subst (λ l. (now i ≡ true) ↔ ((first i ≡ true) ⊎ Contains l i)) whole (members i) in
    ((λ on. here.0 (sym (same i) ∙ on)), (λ h. same i ∙ here.1 h))
