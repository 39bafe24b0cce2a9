-- Lists of numbers: members, and how many there can be.
use Rattle.std.proofs.Common.{◌≡◌, ◌≢◌, ◌⊎◌, inl, inr, ⊎_elim, ℕ, zero, suc, ◌<◌, ◌≤◌, List, [], ◌∷◌, ◌++◌, length, false, nat_eq, Contains, take, drop, sym, refl, ap, ◌∙◌, subst, arith}
use Rattle.std.specs.List.{IsDistinct, AllByRecursion}
use Rattle.std.proofs.lemmas.Bool.Decides.{nat_tests}
use native.Mathlib.Decide.{ℕ_discrete}
use Rattle.hibitset_atomic.specs.Lists.{Has, Distinct, Apart, below}

pub has_cases : (xs : List ℕ) (x : ℕ) → Dec (Has xs x)
has_cases [] x = no (λ h. h)
has_cases (y ∷ ys) x = elim (ℕ_discrete x y) as (λ _. Dec (Has (y ∷ ys) x)) [ yes e ↦ yes (inl e) | no ne ↦ elim (has_cases ys x) as (λ _. Dec (Has (y ∷ ys) x)) [ yes h ↦ yes (inr h) | no n ↦ no (λ t. ⊎_elim (λ e. ne e) (λ h. n h) t) ] ]

pub has_left : (xs ys : List ℕ) (x : ℕ) → Has xs x → Has (xs ++ ys) x
has_left [] ys x h = absurd h
has_left (z ∷ zs) ys x h = ⊎_elim (λ e. inl e) (λ k. inr (has_left zs ys x k)) h

pub has_right : (xs ys : List ℕ) (x : ℕ) → Has ys x → Has (xs ++ ys) x
has_right [] ys x h = h
has_right (z ∷ zs) ys x h = inr (has_right zs ys x h)

pub has_split : (xs ys : List ℕ) (x : ℕ) → Has (xs ++ ys) x → Has xs x ⊎ Has ys x
has_split [] ys x h = inr h
has_split (z ∷ zs) ys x h = ⊎_elim (λ e. inl (inl e)) (λ k. ⊎_elim (λ a. inl (inr a)) (λ b. inr b) (has_split zs ys x k)) h

pub distinct_append : (xs ys : List ℕ) → Distinct xs → Distinct ys → Apart xs ys → Distinct (xs ++ ys)
distinct_append [] ys d e a = e
distinct_append (z ∷ zs) ys d e a = (λ h. ⊎_elim (λ k. d.0 k) (λ k. a z (inl refl) k) (has_split zs ys z h), distinct_append zs ys d.1 e (λ x h k. a x (inr h) k))

pub distinct_parts : (xs ys : List ℕ) → Distinct (xs ++ ys) → Distinct xs × Distinct ys × Apart xs ys
distinct_parts [] ys d = (tt, d, λ x h k. h)
distinct_parts (z ∷ zs) ys d = let t = distinct_parts zs ys d.1 in ((λ h. d.0 (has_left zs ys z h), t.0), t.1, λ x h k. ⊎_elim (λ e. d.0 (has_right zs ys z (subst (Has ys) e k))) (λ h'. t.2 x h' k) h)

-- xs without x
pub without : ℕ → List ℕ → List ℕ
without x [] = []
without x (y ∷ ys) = elim (ℕ_discrete x y) as (λ _. List ℕ) [ yes e ↦ ys | no ne ↦ y ∷ without x ys ]

less : (x : ℕ) (xs : List ℕ) → Distinct xs → Has xs x → (length xs ≡ suc (length (without x xs))) × Distinct (without x xs) × ((y : ℕ) → Has (without x xs) y → Has xs y × (y ≢ x))
unfolding without
less x [] d h = absurd h
less x (z ∷ zs) d h = elim (ℕ_discrete x z) as (λ (q : Dec (x ≡ z)). (length (z ∷ zs) ≡ suc (length (elim q as (λ _. List ℕ) [ yes e ↦ zs | no ne ↦ z ∷ without x zs ])))
    × Distinct (elim q as (λ _. List ℕ) [ yes e ↦ zs | no ne ↦ z ∷ without x zs ])
    × ((y : ℕ) → Has (elim q as (λ _. List ℕ) [ yes e ↦ zs | no ne ↦ z ∷ without x zs ]) y → Has (z ∷ zs) y × (y ≢ x))) [
      | yes e ↦ (refl, d.1, λ y k. (inr k, λ eq. d.0 (subst (Has zs) (eq ∙ e) k)))
      | no ne ↦ let t = less x zs d.1 (⊎_elim (λ e. absurd (ne e)) (λ k. k) h) in
          (ap suc t.0, (λ k. d.0 (t.2 z k).0, t.1), λ y k. ⊎_elim (λ (e : y ≡ z). (inl e, λ eq. ne (sym eq ∙ e))) (λ k'. (inr (t.2 y k').0, (t.2 y k').1)) k)
    ]

-- distinct numbers below n are at most n
pub fits : (n : ℕ) (xs : List ℕ) → Distinct xs → ((x : ℕ) → Has xs x → x < n) → length xs ≤ n
fits zero [] d b = omega arith
fits zero (x ∷ xs) d b = let h = b x (inl refl) in absurd (omega arith)
fits (suc n) xs d b = elim (has_cases xs n) as (λ _. length xs ≤ suc n) [
  | yes h ↦ let t = less n xs d h in let r = fits n (without n xs) t.1 (λ x k. let u = t.2 x k in let p = b x u.0 in let ne = u.1 in omega arith) in let e = t.0 in omega arith
  | no k ↦ let r = fits n xs d (λ x h. let p = b x h in let ne : x ≢ n = λ e. k (subst (Has xs) e h) in omega arith) in omega arith
]

-- n distinct numbers below n are all of them
pub full : (n : ℕ) (xs : List ℕ) → Distinct xs → ((x : ℕ) → Has xs x → x < n) → length xs ≡ n → (x : ℕ) → x < n → Has xs x
full n xs d b e x lt = elim (has_cases xs x) as (λ _. Has xs x) [
  | yes h ↦ h
  | no k ↦ let r : suc (length xs) ≤ n = fits n (x ∷ xs) (k, d) (λ y h. ⊎_elim (λ q. subst (λ m. m < n) (sym q) lt) (λ h'. b y h') h) in absurd (omega arith)
]

pub below_less : (n x : ℕ) → Has (below n) x → x < n
below_less zero x h = absurd h
below_less (suc n) x h = ⊎_elim (λ (e : x ≡ n). omega arith) (λ k. let r = below_less n x k in omega arith) h

pub below_distinct : (n : ℕ) → Distinct (below n)
below_distinct zero = tt
below_distinct (suc n) = (λ h. let r = below_less n n h in absurd (omega arith), below_distinct n)

pub has_take : (n : ℕ) (xs : List ℕ) (x : ℕ) → Has (take n xs) x → Has xs x
has_take zero xs x h = absurd h
has_take (suc n) [] x h = absurd h
has_take (suc n) (y ∷ ys) x h = ⊎_elim (λ e. inl e) (λ k. inr (has_take n ys x k)) h

pub has_drop : (n : ℕ) (xs : List ℕ) (x : ℕ) → Has (drop n xs) x → Has xs x
has_drop zero xs x h = h
has_drop (suc n) [] x h = absurd h
has_drop (suc n) (y ∷ ys) x h = inr (has_drop n ys x h)

pub take_drop : (n : ℕ) (xs : List ℕ) → Distinct xs → Distinct (drop n xs) × Distinct (take n xs) × Apart (drop n xs) (take n xs)
take_drop zero xs d = (d, tt, λ x h k. k)
take_drop (suc n) [] d = (tt, tt, λ x h k. h)
take_drop (suc n) (y ∷ ys) d = let t = take_drop n ys d.1 in (t.0, (λ h. d.0 (has_take n ys y h), t.1), λ x h k. ⊎_elim (λ (e : x ≡ y). d.0 (subst (Has ys) e (has_drop n ys x h))) (λ k'. t.2 x h k') k)

-- The same in std's words.
pub contains-from_has : (xs : List ℕ) (x : ℕ) → Has xs x → Contains xs x
contains-from_has [] x h = absurd h
contains-from_has (y ∷ ys) x h = elim h [
  | inl e ↦ (0, omega arith, sym e)
  | inr later ↦ let there = contains-from_has ys x later in (suc there.0, (let within = there.1 in omega (arith, within)), there.2)
]

pub has-from_contains : (xs : List ℕ) (x : ℕ) → Contains xs x → Has xs x
has-from_contains [] x h = absurd (let within = h.1 in omega (arith, within))
has-from_contains (y ∷ ys) x (zero, within, e) = inl (sym e)
has-from_contains (y ∷ ys) x (suc k, within, e) = inr (has-from_contains ys x (k, omega arith, e))

others-from : (x : ℕ) (ys : List ℕ) → ¬ Has ys x → AllByRecursion (λ y. nat_eq x y ≡ false) ys
others-from x [] none = tt
others-from x (y ∷ ys) none = (let other : x ≢ y = λ e. none (inl e) in grind (arith, nat_tests), others-from x ys (λ h. none (inr h)))

none-from : (x : ℕ) (ys : List ℕ) → AllByRecursion (λ y. nat_eq x y ≡ false) ys → ¬ Has ys x
none-from x [] others = λ h. h
none-from x (y ∷ ys) others = λ h. elim h [
  | inl e ↦ (let test = others.0 in grind (arith, nat_tests))
  | inr later ↦ none-from x ys others.1 later
]

pub is_distinct-from : (xs : List ℕ) → Distinct xs → IsDistinct nat_eq xs
unfolding IsDistinct
is_distinct-from [] d = tt
is_distinct-from (x ∷ xs) d = (others-from x xs d.0, is_distinct-from xs d.1)

pub distinct-from : (xs : List ℕ) → IsDistinct nat_eq xs → Distinct xs
unfolding IsDistinct
distinct-from [] d = tt
distinct-from (x ∷ xs) d = (none-from x xs d.0, distinct-from xs d.1)

-- distinct numbers below n are at most n, in std's words
pub few_below : (n : ℕ) (xs : List ℕ) → IsDistinct nat_eq xs → ((x : ℕ) → Contains xs x → x < n) → length xs ≤ n
few_below n xs once all = fits n xs (distinct-from xs once) (λ x there. all x (contains-from_has xs x there))
