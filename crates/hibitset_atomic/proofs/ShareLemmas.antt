-- What it takes to cut shares off a seat, and that even shares stay even.
use Rattle.std.proofs.Common.{◌≡◌, ◌⊎◌, inl, inr, ℕ, zero, suc, ◌+◌, ◌-◌, ◌*◌, ◌/◌, ◌^◌, ◌<◌, ◌≤◌, List, [], ◌∷◌, ◌++◌, map, flat_map, replicate, get_or, drop, refl, ap, ◌∙◌, append-nil, arith}
use Rattle.std.proofs.Math.Nat.{pow-suc, mul-le-mul_left}
use Rattle.std.proofs.lemmas.List.{map-append, replicate_more}
use Rattle.std.proofs.lemmas.List.Concat.{flat_map-cons}

-- a power of two, and the one below it
twice : (m : ℕ) → 2 ^ (suc m + 1) ≡ 2 ^ (m + 1) * 2
twice m = let e : suc m + 1 ≡ suc (m + 1) = omega arith in ap (λ k. 2 ^ k) e ∙ pow-suc 2 (m + 1)

-- A part of the second half is cut off, and the rest of that half goes back to the first: one load for each halving,
-- but none for the last.
-- h is the half, k how many shares are cut off; before: the loads of the seat; kept and cut: those of the two halves of
-- the half
pub loads-cut_of_second : (w h k before kept cut joined : ℕ) → h ≡ w / 2 → 0 < k → k < h → joined ≡ before + kept + 1
    → ((m : ℕ) → h ≤ 2 ^ (m + 1) → (kept + cut ≤ m) × (cut ≤ m))
    → (n : ℕ) → w ≤ 2 ^ (n + 1) → (joined + cut ≤ before + n) × (cut ≤ n)
loads-cut_of_second w h k before kept cut joined half some less join below zero fits = absurd (omega (arith, half, some, less, fits))
loads-cut_of_second w h k before kept cut joined half some less join below (suc m) fits =
    let e = twice m in
    let b = below m (omega (arith, half, fits, e)) in
    (omega (arith, b.0, join), omega (arith, b.1))

-- A part of the first half is cut off, and goes to the second.
pub loads-cut_of_first : (w h k before kept cut joined : ℕ) → h ≡ w / 2 → h < k → k < w → joined ≡ cut + 1
    → ((m : ℕ) → w - h ≤ 2 ^ (m + 1) → (kept + cut ≤ before + m) × (cut ≤ m))
    → (n : ℕ) → w ≤ 2 ^ (n + 1) → (kept + joined ≤ before + n) × (joined ≤ n)
loads-cut_of_first w h k before kept cut joined half more less join below zero fits = absurd (omega (arith, half, more, less, fits))
loads-cut_of_first w h k before kept cut joined half more less join below (suc m) fits =
    let e = twice m in
    let b = below m (omega (arith, half, fits, e)) in
    (omega (arith, b.0, join), omega (arith, b.1, join))

-- ---- even shares

less_or_not : (a b : ℕ) → (a ≤ b) ⊎ (b + 1 ≤ a)
less_or_not zero b = inl (omega arith)
less_or_not (suc a) zero = inr (omega arith)
less_or_not (suc a) (suc b) = elim (less_or_not a b) [ inl h ↦ inl (omega (arith, h)) | inr h ↦ inr (omega (arith, h)) ]

-- w shares are left for p + 1 seats, and one of these gets s, which is w by their number, rounded up
module _ (w p s : ℕ) (up : w ≤ (p + 1) * s) (near : (p + 1) * s < w + (p + 1)) where
  pub share-less : 0 < p → p < w → s < w
  share-less more enough = elim (less_or_not w s) [
    | inl all ↦ absurd (let m = mul-le-mul_left (p + 1) all in let t = mul-le-mul_left w more in omega (arith, m, t, near, enough))
    | inr h ↦ omega (arith, h)
  ]

  pub share-at_least : (q : ℕ) → (p + 1) * q ≤ w → q ≤ s
  share-at_least q low = elim (less_or_not q s) [
    | inl h ↦ h
    | inr past ↦ absurd (let m = mul-le-mul_left (p + 1) past in omega (arith, m, low, up))
  ]

  pub share-at_most : (q : ℕ) → w ≤ (p + 1) * q → s ≤ q
  share-at_most q high = elim (less_or_not s q) [
    | inl h ↦ h
    | inr past ↦ absurd (let m = mul-le-mul_left (p + 1) past in omega (arith, m, high, near))
  ]

  pub left-at_least : (q : ℕ) → (p + 1) * q ≤ w → p * q ≤ w - s
  left-at_least q low = elim (less_or_not s q) [
    | inl same ↦ let m = mul-le-mul_left (p + 1) same in let n = mul-le-mul_left p same in omega (arith, m, n, low, up)
    | inr past ↦ let m = mul-le-mul_left p past in omega (arith, m, near)
  ]

  pub left-at_most : (q : ℕ) → w ≤ (p + 1) * q → w - s ≤ p * q
  left-at_most q high = let m = mul-le-mul_left p (share-at_most q high) in omega (arith, m, up)

-- ---- what the first seat has, and the others have not

module _ {S X : Type 0} (f : S → X) (x none : X) where
  pub first-keeps : (items : List S) (rest next others : S) (k : ℕ) → map f items ++ f rest ∷ [] ≡ x ∷ replicate k none → f next ≡ f rest → f others ≡ none
      → map f (items ++ next ∷ []) ++ f others ∷ [] ≡ x ∷ replicate (k + 1) none
  first-keeps items rest next others k so_far same nothing =
      ap (λ xs. xs ++ f others ∷ []) (map-append f items (next ∷ []) ∙ ap (λ y. map f items ++ y ∷ []) same ∙ so_far)
      ∙ ap (λ y. (x ∷ replicate k none) ++ y ∷ []) nothing
      ∙ ap (λ xs. x ∷ xs) (replicate_more k none)

-- ---- the reports of all seats together

none_of : {S : Type 0} (f : S → List ℕ) (seats : List S) (k : ℕ) → map f seats ≡ replicate k [] → flat_map f seats ≡ []
none_of f [] k each = refl
none_of f (s ∷ seats) zero each = absurd cc
none_of f (s ∷ seats) (suc k) each =
    let here : f s ≡ [] = cc in
    let there : map f seats ≡ replicate k [] = cc in
    flat_map-cons f s seats ∙ ap (λ r. r ++ flat_map f seats) here ∙ none_of f seats k there

-- those of the first and of the others
pub reports-together : {S : Type 0} (f : S → List ℕ) (x : List ℕ) (k : ℕ) (seats others : List S) (first : S) → map f seats ≡ x ∷ replicate k [] → first ≡ get_or seats 0 first → others ≡ drop 1 seats
    → f first ++ flat_map f others ≡ x
reports-together f x k [] others first each head tail = absurd cc
reports-together f x k (s ∷ seats) others first each head tail =
    let same : first ≡ s = head in
    let here : f s ≡ x = cc in
    let there : map f seats ≡ replicate k [] = cc in
    ap (λ r. f first ++ flat_map f r) tail ∙ ap (λ r. f first ++ r) (none_of f seats k there) ∙ append-nil (f first) ∙ ap f same ∙ here
