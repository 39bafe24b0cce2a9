-- A step of a walk from a place on, and what a set that is not empty has.
use Rattle.std.proofs.Common.{◌≡◌, ℕ, zero, suc, ◌+◌, ◌-◌, ◌<◌, ◌≤◌, Bool, true, false, List, [], ◌∷◌, ◌⊎◌, Contains, refl, arith, nat_le, ◌&&◌, ap₂, subst, ◌∙◌, inl, inr}
use Rattle.std.proofs.lemmas.Bool.{cases_Bool, le-leb}
use Rattle.hibitset_base.proofs.CallerLemmas.{none_from}
use Rattle.hibitset_base.specs.First.{IsFirst}
use Rattle.hibitset_base.specs.Members.{members, members_below}
use Rattle.hibitset_base.proofs.FirstLemmas.{first_below}

-- x is the first of the numbers at which p holds from a on, before `end`, and `rest` are those after it
pub record StepsTo (p : ℕ → Bool) (a end x : ℕ) (rest : List ℕ) : Type 0 where
  pub from : a ≤ x
  pub within : x < end
  pub stands : p x ≡ true
  pub none_before : (i : ℕ) → a ≤ i → i < x → p i ≡ false
  pub rest_is : rest ≡ members p (x + 1) (end - (x + 1))

later : (p : ℕ → Bool) (a end x : ℕ) (rest : List ℕ) → p a ≡ false → StepsTo p (suc a) end x rest → StepsTo p a end x rest
later p a end x rest off h = record {
  from = omega (arith, h.from);
  within = h.within;
  stands = h.stands;
  none_before = λ i low high. grind (arith, h.none_before i);
  rest_is = h.rest_is;
}

here : (p : ℕ → Bool) (n a x : ℕ) (rest : List ℕ) → p a ≡ true → a ∷ members p (suc a) n ≡ x ∷ rest → StepsTo p a (a + suc n) x rest
here p n a x rest on e =
    let x-is : a ≡ x = cc in
    let rest-is : rest ≡ members p (suc a) n = cc in
    let place : suc a ≡ x + 1 = omega arith in
    let count : n ≡ a + suc n - (x + 1) = omega arith in
    record {
      from = omega arith;
      within = omega arith;
      stands = cc;
      none_before = λ i low high. absurd (omega arith);
      rest_is = rest-is ∙ ap₂ (members p) place count;
    }

from_place : (p : ℕ → Bool) (n a x : ℕ) (rest : List ℕ) → members p a n ≡ x ∷ rest → StepsTo p a (a + n) x rest
unfolding members
from_place p zero a x rest e = absurd (cc)
from_place p (suc n) a x rest e = elim (cases_Bool (p a)) [
  | inl on ↦ here p n a x rest on (rw on at e)
  | inr off ↦
      let same : suc a + n ≡ a + suc n = omega arith in
      subst (λ end. StepsTo p a end x rest) same (later p a (suc a + n) x rest off (from_place p n (suc a) x rest (rw off at e)))
]

-- The first item of a walk that begins at a place, and what is left after it.
pub step_from : (p : ℕ → Bool) (a end x : ℕ) (rest : List ℕ) → a ≤ end → members p a (end - a) ≡ x ∷ rest → StepsTo p a end x rest
step_from p a end x rest low e =
    let same : a + (end - a) ≡ end = omega arith in
    subst (λ z. StepsTo p a z x rest) same (from_place p (end - a) a x rest e)

-- Where a walk from a place has no item, the test fails from there on.
pub ended_from : (p : ℕ → Bool) (a end : ℕ) → members p a (end - a) ≡ [] → (i : ℕ) → a ≤ i → i < end → p i ≡ false
ended_from p a end e i low high =
    let h : (nat_le a i && p i) ≡ false = none_from end a p e i high in
    rw (le-leb a i low) at h

-- A set that is not empty has a least member.
pub some_member : (bound : ℕ) (p : ℕ → Bool) → ¬ (members_below bound p ≡ []) → (x : ℕ) × IsFirst bound p x
some_member bound p some = by_list (members_below bound p) refl
  where
    by_list : (xs : List ℕ) → members_below bound p ≡ xs → (x : ℕ) × IsFirst bound p x
    by_list [] e = absurd (some e)
    by_list (x ∷ xs) e = (x, first_below bound p x xs e)

-- An element of a list is its first or one of the rest.
pub first_or_rest : (x : ℕ) (xs : List ℕ) (y : ℕ) → Contains (x ∷ xs) y → (x ≡ y) ⊎ Contains xs y
first_or_rest x xs y (zero, below, e) = inl e
first_or_rest x xs y (suc k, below, e) = inr (k, omega arith, e)
