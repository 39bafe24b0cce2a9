-- Sets with the same list of members.
use Rattle.std.proofs.Common.{◌≡◌, ℕ, zero, suc, ◌+◌, ◌<◌, ◌≤◌, ◌==◌, Bool, List, ◌∷◌, sym, ◌∙◌, arith, inl, inr}
use Rattle.std.specs.Bool.{Decides}
use Rattle.std.specs.Ordering.{on}
use Rattle.std.specs.Cmp.Lexicographic.{pointwise}
use Rattle.std.proofs.lemmas.Slice.Eq.{bytes_eq-Decides}
use Rattle.std.proofs.Math.Nat.{eq-or-lt_of_le}
use Rattle.hibitset_base.specs.Members.{members}
use Rattle.hibitset_base.specs.declared.util.TheConstants.{MAX_EID}
use Rattle.hibitset_base.proofs.MemberLemmas.{true_or_false, members-same}
use Rattle.hibitset.specs.BitSet.{has, members_of}
use Rattle.hibitset.specs.declared.set.BitSet.{BitSet}

-- no member lies below the start
first_member : (p : ℕ → Bool) (a n x : ℕ) (xs : List ℕ) → members p a n ≡ x ∷ xs → a ≤ x
unfolding members
first_member p a zero x xs e = absurd (cc)
first_member p a (suc n) x xs e = elim (true_or_false (p a)) [
  | inl on ↦ (let here = rw on at e in let head : a ≡ x = cc here in omega arith)
  | inr off ↦ (let here = rw off at e in let later = first_member p (suc a) n x xs here in omega arith)
]

-- a member at the start, where another set with the same list has none
not_first : (q : ℕ → Bool) (a n : ℕ) (xs : List ℕ) → a ∷ xs ≡ members q (suc a) n → ⊥
not_first q a n xs e = absurd (let later = first_member q (suc a) n a xs (sym e) in omega arith)

pub same_list : (p q : ℕ → Bool) (a n : ℕ) → members p a n ≡ members q a n → (i : ℕ) → a ≤ i → i < a + n → p i ≡ q i
unfolding members
same_list p q a zero e i from below = absurd (omega arith)
same_list p q a (suc n) e i from below = elim (true_or_false (p a)) [
  | inl on ↦ elim (true_or_false (q a)) [
    | inl lit ↦
        let here = rw (on, lit) at e in
        let rest : members p (suc a) n ≡ members q (suc a) n = cc here in
        elim (eq-or-lt_of_le from) [ inl is ↦ rw (← is) (on ∙ sym lit) | inr later ↦ same_list p q (suc a) n rest i later (omega arith) ]
    | inr out ↦ absurd (not_first q a n (members p (suc a) n) (rw (on, out) at e))
  ]
  | inr off ↦ elim (true_or_false (q a)) [
    | inl lit ↦ absurd (not_first p a n (members q (suc a) n) (sym (rw (off, lit) at e)))
    | inr out ↦
        let rest = rw (off, out) at e in
        elim (eq-or-lt_of_le from) [ inl is ↦ rw (← is) (off ∙ sym out) | inr later ↦ same_list p q (suc a) n rest i later (omega arith) ]
  ]
]

-- `==` tells whether two sets have the same members
pub eq-Decides : (a b : BitSet) → Decides (on members_of (pointwise ◌==◌) a b) ((i : ℕ) → i < MAX_EID → has a i ≡ has b i)
eq-Decides a b =
    let lists = bytes_eq-Decides (members_of a) (members_of b) in
    (λ e i below. same_list (has a) (has b) 0 MAX_EID (lists.0 e) i (omega arith) (omega arith), λ same. lists.1 (members-same (has a) (has b) 0 MAX_EID (λ i from below. same i (omega arith))))
