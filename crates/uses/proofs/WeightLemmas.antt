-- The weights of the members of two sets fit 64 bits.
use Rattle.std.proofs.Common.{◌≡◌, ℕ, ◌+◌, ◌-◌, ◌%◌, ◌^◌, ◌<◌, Bool, ◌&&◌, List, [], ◌∷◌, ◌++◌, Result, IfOk, slice_index, Fits, w32, subst, rules, get_or, sum_by, arith, mul-le-mul_right}
use Rattle.std.proofs.lemmas.List.Sums.{sum_by-le, sum_by-append, sum_by_push}
use Rattle.std.proofs.lemmas.Result.{IfOk-weaker}
use Rattle.hibitset.specs.Prelude.{FoldsInParts, members_below, MAX_EID}
use Rattle.hibitset.proofs.CallerLemmas.{answer_of_parts}
use Rattle.hibitset_base.proofs.MemberLemmas.{members-length, members-same}
use Rattle.uses.specs.Weights.{weight_of_both}

-- a list of `u32`s has numbers below 2^32
pub items_fit : (weights : List ℕ) → ((i : ℕ) → Fits w32 (get_or weights i 0)) → (i : ℕ) → slice_index weights i < 2 ^ 32
items_fit weights fits i = search (rules, fits)

pub weight_fits : (weights : List ℕ) (p q : ℕ → Bool) → ((i : ℕ) → slice_index weights i < 2 ^ 32) → weight_of_both weights p q < 2 ^ 64
weight_fits weights p q fits =
    let both = λ (i : ℕ). p i && q i in
    let few = members-length both 0 MAX_EID in
    let sum = sum_by-le (λ i. slice_index weights i) (2 ^ 32 - 1) (members_below MAX_EID both) (λ k d h. omega (arith, fits (get_or (members_below MAX_EID both) k d))) in
    let product = mul-le-mul_right (2 ^ 32 - 1) few in
    omega arith

module _ (weights : List ℕ) (p q : ℕ → Bool) (init : ℕ → Type 0) (step combine : ℕ → ℕ → ℕ → Type 0)
    (begins : (e : ℕ) → init e → e ≡ 0)
    (steps : (a x b : ℕ) → step a x b → b ≡ (a + slice_index weights x) % 2 ^ 64)
    (joins : (a b c : ℕ) → combine a b c → c ≡ (a + b) % 2 ^ 64) where
  wrapped : List ℕ → ℕ
  wrapped xs = sum_by (λ i. slice_index weights i) xs % 2 ^ 64

  wrapped_step : (xs : List ℕ) (x b : ℕ) → step (wrapped xs) x b → b ≡ wrapped (xs ++ x ∷ [])
  unfolding wrapped
  wrapped_step xs x b k =
      let sum = sum_by_push (λ i. slice_index weights i) xs x in
      let here = steps (wrapped xs) x b k in
      omega (arith, here, sum)

  wrapped_join : (xs ys : List ℕ) (c : ℕ) → combine (wrapped xs) (wrapped ys) c → c ≡ wrapped (xs ++ ys)
  unfolding wrapped
  wrapped_join xs ys c k =
      let sum = sum_by-append (λ i. slice_index weights i) xs ys in
      let here = joins (wrapped xs) (wrapped ys) c k in
      omega (arith, here, sum)

  wrapped_begin : (e : ℕ) → init e → e ≡ wrapped []
  unfolding wrapped
  wrapped_begin e k = begins e k

  total_is : ((i : ℕ) → slice_index weights i < 2 ^ 32) → (total : ℕ) → FoldsInParts init step combine (members_below MAX_EID (λ i. p i && q i)) total → total ≡ weight_of_both weights p q
  unfolding wrapped
  total_is fits total h =
      let whole : total ≡ wrapped (members_below MAX_EID (λ i. p i && q i)) = answer_of_parts init step combine wrapped wrapped_begin wrapped_step wrapped_join (members_below MAX_EID (λ i. p i && q i)) total h in
      let small = weight_fits weights p q fits in
      omega (arith, whole)

  -- the same of a set that holds of the numbers in both
  total_of : (r : ℕ → Bool) → ((i : ℕ) → r i ≡ (p i && q i)) → ((i : ℕ) → slice_index weights i < 2 ^ 32) → (total : ℕ) → FoldsInParts init step combine (members_below MAX_EID r) total → total ≡ weight_of_both weights p q
  total_of r same fits total h =
      let list : members_below MAX_EID r ≡ members_below MAX_EID (λ i. p i && q i) = members-same r (λ i. p i && q i) 0 MAX_EID (λ i low high. same i) in
      total_is fits total (subst (λ xs. FoldsInParts init step combine xs total) list h)

  pub total_of_parts : {E : Type 0} (r : ℕ → Bool) → ((i : ℕ) → r i ≡ (p i && q i)) → ((i : ℕ) → slice_index weights i < 2 ^ 32) → (xs : List ℕ) → xs ≡ members_below MAX_EID r → (result : Result ℕ E) → IfOk result (FoldsInParts init step combine xs) → IfOk result (λ total. total ≡ weight_of_both weights p q)
  total_of_parts r same fits xs list result h =
      IfOk-weaker result (FoldsInParts init step combine (members_below MAX_EID r)) (λ total. total ≡ weight_of_both weights p q) (total_of r same fits)
      (subst (λ ys. IfOk result (FoldsInParts init step combine ys)) list h)
