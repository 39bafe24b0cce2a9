-- The first of a list of members.
use Rattle.std.proofs.Common.{◌≡◌, ℕ, zero, suc, ◌+◌, ◌<◌, ◌≤◌, Bool, true, false, List, [], ◌∷◌, sym, subst, arith, inl, inr}
use Rattle.std.proofs.Math.Nat.{eq-or-lt_of_le}
use Rattle.hibitset_base.specs.Members.{members, members_below}
use Rattle.hibitset_base.specs.First.{IsFirst, HasNone}
use Rattle.hibitset_base.proofs.MemberLemmas.{true_or_false}

absurd_cons : (x : ℕ) (xs : List ℕ) → x ∷ xs ≡ [] → ⊥
absurd_cons x xs e = cc

pub none_in : (p : ℕ → Bool) (a n : ℕ) → members p a n ≡ [] → (i : ℕ) → a ≤ i → i < a + n → p i ≡ false
unfolding members
none_in p a zero e i from below = absurd (omega arith)
none_in p a (suc n) e i from below = elim (true_or_false (p a)) [
  | inl stands ↦ absurd (absurd_cons a (members p (suc a) n) (rw stands at e))
  | inr clear ↦
      let rest : members p (suc a) n ≡ [] = rw clear at e in
      elim (eq-or-lt_of_le from) [
        | inl here ↦ subst (λ k. p k ≡ false) here clear
        | inr later ↦ none_in p (suc a) n rest i (omega arith) (omega arith)
      ]
]

pub none_below : (bound : ℕ) (p : ℕ → Bool) → members_below bound p ≡ [] → HasNone bound p
none_below bound p e i below = none_in p 0 bound e i (omega arith) (omega arith)

-- the first number from a on, of n, at which the test holds
pub record FirstFrom (p : ℕ → Bool) (a n x : ℕ) : Type 0 where
  pub from : a ≤ x
  pub within : x < a + n
  pub stands : p x ≡ true
  pub none_before : (i : ℕ) → a ≤ i → i < x → p i ≡ false

head_is : (x y : ℕ) (xs ys : List ℕ) → x ∷ xs ≡ y ∷ ys → x ≡ y
head_is x y xs ys e = cc

pub first_in : (p : ℕ → Bool) (a n x : ℕ) (xs : List ℕ) → members p a n ≡ x ∷ xs → FirstFrom p a n x
unfolding members
first_in p a zero x xs e = absurd (absurd_cons x xs (sym e))
first_in p a (suc n) x xs e = elim (true_or_false (p a)) [
  | inl stands ↦
      let same : a ≡ x = head_is a x (members p (suc a) n) xs (rw stands at e) in
      record { from = omega arith; within = omega arith; stands = subst (λ k. p k ≡ true) same stands; none_before = λ i from before. absurd (omega arith) }
  | inr clear ↦
      let rest : members p (suc a) n ≡ x ∷ xs = rw clear at e in
      let h = first_in p (suc a) n x xs rest in
      let h0 = h.from in
      let h1 = h.within in
      record {
        from = omega arith;
        within = omega arith;
        stands = h.stands;
        none_before = λ i from before. elim (eq-or-lt_of_le from) [
          | inl here ↦ subst (λ k. p k ≡ false) here clear
          | inr later ↦ h.none_before i (omega arith) before
        ];
      }
]

-- the first of the members below a bound is the least number at which the test holds
pub first_below : (bound : ℕ) (p : ℕ → Bool) (x : ℕ) (xs : List ℕ) → members_below bound p ≡ x ∷ xs → IsFirst bound p x
first_below bound p x xs e =
    let h = first_in p 0 bound x xs e in
    let w = h.within in
    record { within = omega arith; stands = h.stands; none_before = λ i before. h.none_before i (omega arith) before }
