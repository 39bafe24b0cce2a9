-- How many aligned ranges of a size hold one of some indices.
use Rattle.std.proofs.Common.{◌≡◌, ◌≢◌, ℕ, zero, suc, ◌+◌, ◌/◌, ◌<◌, ◌≤◌, Bool, true, false, cond, ◌||◌, ◌==◌, List, [], ◌∷◌, ◌++◌, length, All, get_or, sym, ◌∙◌, refl, subst, eq-eqb, arith, inl, inr}
use Rattle.std.specs.List.{Any}
use Rattle.std.proofs.lemmas.List.Folds.{list_any-append, list_any_at, Any-from_list_any}
use Rattle.std.proofs.Math.Nat.{div-le_self}
use Rattle.hibitset.proofs.ComparisonLemmas.{same_of_test}
use Rattle.hibitset_base.specs.Members.{members}
use Rattle.hibitset_base.specs.Splits.{LieInOneRange, ShareNoRange}
use Rattle.hibitset_base.specs.declared.util.TheConstants.{MAX_EID}
use Rattle.hibitset_base.proofs.MemberLemmas.{true_or_false, members-none, members-length}
use Rattle.hibitset_base.proofs.ReadBoundLemmas.{some-members}
use Rattle.hibitset_run.specs.Script.{members_of, ranges_of, parts_in}

cond_sum : (x y z : Bool) (a : ℕ) (xs ys zs : List ℕ) → z ≡ (x || y) → (x ≡ true → y ≡ true → ⊥) → length zs ≡ length xs + length ys
    → length (cond z (a ∷ zs) zs) ≡ length (cond x (a ∷ xs) xs) + length (cond y (a ∷ ys) ys)
cond_sum true true z a xs ys zs e apart sum = absurd (apart refl refl)
cond_sum true false z a xs ys zs e apart sum = rw e (omega arith)
cond_sum false true z a xs ys zs e apart sum = rw e (omega arith)
cond_sum false false z a xs ys zs e apart sum = rw e (omega arith)

-- the members of a union whose parts have none in common
members-sum : (p q t : ℕ → Bool) (a n : ℕ) → ((i : ℕ) → t i ≡ (p i || q i)) → ((i : ℕ) → p i ≡ true → q i ≡ true → ⊥) → length (members t a n) ≡ length (members p a n) + length (members q a n)
unfolding members
members-sum p q t a zero either apart = omega arith
members-sum p q t a (suc n) either apart = cond_sum (p a) (q a) (t a) a (members p (suc a) n) (members q (suc a) n) (members t (suc a) n) (either a) (apart a) (members-sum p q t (suc a) n either apart)

-- a test that holds at most at one number
members-one : (p : ℕ → Bool) (q a n : ℕ) → ((i : ℕ) → p i ≡ true → i ≡ q) → length (members p a n) ≤ 1
unfolding members
members-one p q a zero only = omega arith
members-one p q a (suc n) only = elim (true_or_false (p a)) [
  | inl on ↦ (
      let here : a ≡ q = only a on in
      let none : members p (suc a) n ≡ [] = members-none p (suc a) n (λ i from below. elim (true_or_false (p i)) [ inl also ↦ absurd (let there : i ≡ q = only i also in omega arith) | inr off ↦ off ]) in
      rw (on, none) (omega arith))
  | inr off ↦ rw off (members-one p q (suc a) n only)
]

module _ (size : ℕ) where
  -- a range that holds one of the indices
  held : (xs : List ℕ) (q : ℕ) → ranges_of size xs q ≡ true → Any (λ i. i / size ≡ q) xs
  held xs q on =
      let found = Any-from_list_any (λ i. i / size == q) xs on in
      (found.0, found.1, found.2, found.3, same_of_test (found.1 / size) q found.4)

  one_range : (xs : List ℕ) (lie : LieInOneRange size xs) (q : ℕ) → ranges_of size xs q ≡ true → q ≡ lie.0
  one_range xs lie q on =
      let found = held xs q on in
      let here : found.1 / size ≡ lie.0 = subst (λ i. i / size ≡ lie.0) found.3 (lie.1 found.0 found.1 found.2) in
      sym found.4 ∙ here

  no_range : (xs ys : List ℕ) → ShareNoRange size xs ys → (q : ℕ) → ranges_of size xs q ≡ true → ranges_of size ys q ≡ true → ⊥
  no_range xs ys share q on also =
      let x = held xs q on in
      let y = held ys q also in
      let apart : x.1 / size ≢ y.1 / size = subst (λ j. x.1 / size ≢ j / size) y.3 (subst (λ i. All (λ j. i / size ≢ j / size) ys) x.3 (share x.0 x.1 x.2) y.0 y.1 y.2) in
      apart (x.4 ∙ sym y.4)

  some_range : (xs : List ℕ) → All (λ i. i < MAX_EID) xs → 0 < length xs → 0 < length (members_of (ranges_of size xs))
  some_range xs below some =
      let x : ℕ = get_or xs 0 0 in
      let within : x < MAX_EID = below 0 0 some in
      let no_more : x / size ≤ x = div-le_self x size in
      some-members (ranges_of size xs) 0 MAX_EID (x / size) (omega arith) (omega arith)
      (list_any_at (λ i. i / size == x / size) xs 0 0 some (eq-eqb (x / size) (x / size) refl))

  -- indices of one range are one part
  pub parts_in-one : (xs : List ℕ) → LieInOneRange size xs → parts_in size xs ≡ 1
  parts_in-one xs lie = let most = members-one (ranges_of size xs) lie.0 0 MAX_EID (one_range xs lie) in omega arith

  -- indices in two lists that share no range
  pub parts_in-append : (xs ys : List ℕ) → All (λ i. i < MAX_EID) xs → All (λ i. i < MAX_EID) ys → 0 < length xs → 0 < length ys → ShareNoRange size xs ys → parts_in size (xs ++ ys) ≡ parts_in size xs + parts_in size ys
  parts_in-append xs ys xs_below ys_below xs_some ys_some share =
      let sum = members-sum (ranges_of size xs) (ranges_of size ys) (ranges_of size (xs ++ ys)) 0 MAX_EID (λ q. list_any-append (λ i. i / size == q) xs ys) (no_range xs ys share) in
      let left = some_range xs xs_below xs_some in
      let right = some_range ys ys_below ys_some in
      omega arith

  pub parts_in-le : (xs : List ℕ) → parts_in size xs ≤ MAX_EID
  parts_in-le xs = let most = members-length (ranges_of size xs) 0 MAX_EID in omega arith

  pub parts_in-some : (xs : List ℕ) → 0 < parts_in size xs
  parts_in-some xs = omega arith
