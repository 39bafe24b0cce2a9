-- Ascending sequences of numbers, and how many numbers a test passes.
use Rattle.std.proofs.Common.{◌≡◌, ℕ, zero, suc, ◌+◌, ◌<◌, ◌≤◌, ◌==◌, ◌||◌, false, length, ap, ◌∙◌, arith, inl, inr}
use Rattle.std.proofs.Math.Bool.{or_comm}
use Rattle.std.proofs.lemmas.Bool.{cases_lt, eqb-true, false_from_ne_true}
use Rattle.hibitset_base.specs.Members.{members}
use Rattle.hibitset_base.proofs.MemberLemmas.{members-none}
use Rattle.hibitset.proofs.MemberCountLemmas.{members-with}
use Rattle.hibitset_roaring.specs.Numbers.{any_below}
use Rattle.hibitset_roaring.proofs.TestLemmas.{any_none, any_some, eq_comm}

-- the first n numbers ascend
pub record Ascends (f : ℕ → ℕ) (n : ℕ) : Type 0 where
  pub step : (k : ℕ) → k + 1 < n → f k < f (k + 1)

-- the first n numbers of one sequence are among the first m of another
pub record AreAmong (f : ℕ → ℕ) (n : ℕ) (g : ℕ → ℕ) (m : ℕ) : Type 0 where
  pub index : (k : ℕ) → k < n → (j : ℕ) × (j < m) × (g j ≡ f k)

module _ (f : ℕ → ℕ) (n : ℕ) (up : Ascends f n) where
  pub ascends_far : (j k : ℕ) → j < k → k < n → f j < f k
  ascends_far j zero less below = absurd (omega (arith, less))
  ascends_far j (suc k) less below =
      let e : k + 1 ≡ suc k = omega arith in
      let s : f k < f (k + 1) = up.step k (omega (arith, below)) in
      let next : f k < f (suc k) = rw e at s in
      elim (cases_lt j k) [
        | inl lower ↦ (let h = ascends_far j k lower (omega (arith, below)) in omega (arith, h, next))
        | inr upper ↦ (let i : j ≡ k = omega (arith, upper, less) in rw i next)
      ]

  pub ascends_upto : (j k : ℕ) → j ≤ k → k < n → f j ≤ f k
  ascends_upto j k order below = elim (cases_lt j k) [
    | inl lower ↦ (let h = ascends_far j k lower below in omega (arith, h))
    | inr upper ↦ (let i : j ≡ k = omega (arith, upper, order) in rw i (omega arith))
  ]

  pub one_index : (j k : ℕ) → j < n → k < n → f j ≡ f k → j ≡ k
  one_index j k first second same = elim (cases_lt j k) [
    | inl lower ↦ absurd (let h = ascends_far j k lower second in omega (arith, h, same))
    | inr upper ↦ elim (cases_lt k j) [
      | inl lower ↦ absurd (let h = ascends_far k j lower first in omega (arith, h, same))
      | inr order ↦ omega (arith, upper, order)
    ]
  ]

-- two ascending sequences of the same numbers are one
module _ (f g : ℕ → ℕ) (n m : ℕ) (fu : Ascends f n) (gu : Ascends g m) (fg : AreAmong f n g m) (gf : AreAmong g m f n) where
  agree : (k i : ℕ) → i < k → i < n → (i < m) × (f i ≡ g i)
  agree zero i below within = absurd (omega (arith, below))
  agree (suc k) i below within = elim (cases_lt i k) [
    | inl lower ↦ agree k i lower within
    | inr upper ↦
        let is : i ≡ k = omega (arith, below, upper) in
        let w = fg.index i within in
        let j : ℕ = w.0 in
        let there : j < m = w.1 in
        let j_is : g j ≡ f i = w.2 in
        let j_later : i ≤ j = elim (cases_lt j i) [
          | inl lower ↦ absurd (let a = agree k j (omega (arith, lower, is)) (omega (arith, lower, within)) in let e = a.1 in let less = ascends_far f n fu j i lower within in omega (arith, e, j_is, less))
          | inr order ↦ order
        ] in
        let within' : i < m = omega (arith, j_later, there) in
        let v = gf.index i within' in
        let l : ℕ = v.0 in
        let here : l < n = v.1 in
        let l_is : f l ≡ g i = v.2 in
        let l_later : i ≤ l = elim (cases_lt l i) [
          | inl lower ↦ absurd (let a = agree k l (omega (arith, lower, is)) here in let e = a.1 in let less = ascends_far g m gu l i lower within' in omega (arith, e, l_is, less))
          | inr order ↦ order
        ] in
        let low = ascends_upto g m gu i j j_later there in
        let high = ascends_upto f n fu i l l_later here in
        (within', omega (arith, low, high, j_is, l_is))
  ]

  pub same_numbers : (i : ℕ) → i < n → f i ≡ g i
  same_numbers i below = (agree (i + 1) i (omega arith) below).1

  pub no_more : n ≤ m
  no_more = elim (cases_lt m n) [
    | inl more ↦ absurd (let a = agree (m + 1) m (omega arith) more in let e = a.0 in omega (arith, e))
    | inr order ↦ order
  ]

-- the numbers of an ascending sequence are as many as it is long
pub as_many : (f : ℕ → ℕ) (bound n : ℕ) → Ascends f n → ((j : ℕ) → j < n → f j < bound) → length (members (λ v. any_below n (λ j. f j == v)) 0 bound) ≡ n
unfolding any_below
as_many f bound zero up small = ap length (members-none (λ v. any_below 0 (λ j. f j == v)) 0 bound (λ i from below. any_none (λ j. f j == i)))
as_many f bound (suc n) up small =
    let fewer : Ascends f n = record { step = λ k below. up.step k (omega (arith, below)) } in
    let h = as_many f bound n fewer (λ j below. small j (omega (arith, below))) in
    let off : any_below n (λ j. f j == f n) ≡ false = false_from_ne_true (any_below n (λ j. f j == f n)) (λ on.
    let s = any_some n (λ j. f j == f n) on in
    let e = eqb-true (f s.0) (f n) s.2 in
    let less = ascends_far f (suc n) up s.0 n s.1 (omega arith) in
    omega (arith, e, less)) in
    let more = members-with (λ v. any_below n (λ j. f j == v)) (λ v. any_below (suc n) (λ j. f j == v)) (f n)
    (λ i. ap (λ t. t || any_below n (λ j. f j == i)) (eq_comm (f n) i) ∙ or_comm (i == f n) (any_below n (λ j. f j == i))) off bound (small n (omega arith)) in
    omega (arith, h, more)
