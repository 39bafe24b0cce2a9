-- The ends of the list of members.
use Rattle.std.proofs.Common.{◌≡◌, ℕ, suc, ◌+◌, ◌-◌, ◌<◌, Bool, true, [], ◌∷◌, ◌++◌, refl, sym, ◌∙◌, ap, arith}
use Rattle.std.specs.Prelude.{drop}
use Rattle.hibitset_base.specs.Members.{members, members_below}
use Rattle.hibitset_base.specs.First.{IsFirst, IsLast}
use Rattle.hibitset_base.proofs.MemberLemmas.{members-append, members-none}

begins_with : (p : ℕ → Bool) (x n : ℕ) → p x ≡ true → members p x (suc n) ≡ x ∷ members p (suc x) n
unfolding members
begins_with p x n stands = rw stands refl

-- the members before a member, that member, and those after it
parted_at : (p : ℕ → Bool) (x bound : ℕ) → x < bound → p x ≡ true → members_below bound p ≡ members_below x p ++ (x ∷ members p (suc x) (bound - suc x))
parted_at p x bound within stands =
    let e : bound ≡ x + suc (bound - suc x) = omega (arith, within) in
    let whole : members_below bound p ≡ members_below (x + suc (bound - suc x)) p = ap (λ n. members_below n p) e in
    let zero : 0 + x ≡ x = omega arith in
    let parts : members_below (x + suc (bound - suc x)) p ≡ members_below x p ++ members p x (suc (bound - suc x)) = rw zero at (members-append p 0 x (suc (bound - suc x))) in
    whole ∙ (parts ∙ ap (λ rest. members_below x p ++ rest) (begins_with p x (bound - suc x) stands))

pub begins_with_first : (p : ℕ → Bool) (x bound : ℕ) → IsFirst bound p x → members_below bound p ≡ x ∷ drop 1 (members_below bound p)
begins_with_first p x bound first =
    let none : members_below x p ≡ [] = members-none p 0 x (λ i from below. first.none_before i (omega (arith, below))) in
    let at : members_below bound p ≡ x ∷ members p (suc x) (bound - suc x) = parted_at p x bound first.within first.stands ∙ ap (λ front. front ++ (x ∷ members p (suc x) (bound - suc x))) none in
    at ∙ ap (λ rest. x ∷ rest) (sym (ap (λ all. drop 1 all) at))

pub ends_with_last : (p : ℕ → Bool) (x bound : ℕ) → IsLast bound p x → members_below bound p ≡ members_below x p ++ (x ∷ [])
ends_with_last p x bound last =
    let none : members p (suc x) (bound - suc x) ≡ [] = members-none p (suc x) (bound - suc x) (λ i from below. last.none_after i (omega (arith, from)) (omega (arith, below, last.within))) in
    parted_at p x bound last.within last.stands ∙ ap (λ rest. members_below x p ++ (x ∷ rest)) none
