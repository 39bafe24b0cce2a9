-- A list whose indices are added one by one.
use Rattle.std.proofs.Common.{◌≡◌, ◌↔◌, ◌⊎◌, inl, inr, ℕ, ◌+◌, ◌<◌, ◌≤◌, max, Bool, true, ◌==◌, ◌||◌, List, [], ◌∷◌, ◌++◌, take, refl, length, slice_index, Contains, sym, ◌∙◌, subst, arith, eq-eqb}
use Rattle.std.specs.List.{All}
use Rattle.std.proofs.lemmas.Bool.{or_cases, eqb-true}
use Rattle.std.proofs.lemmas.List.{take_all, take_more, take-take, get_or-take, length-take-le}
use Rattle.std.proofs.lemmas.List.Elements.{All-take, All-get_or, All-from_get_or, Contains-append_left, Contains-push, Contains-push_cases}
use Rattle.hibitset_base.proofs.ErrorLemmas.{or_true}
use Rattle.hibitset_c.specs.List.{AddsFirst}

pub adds_none : (list : List ℕ) (old : ℕ → Bool) → AddsFirst list 0 old old
adds_none list old i = (λ was. inl was, λ h. elim h [ inl was ↦ was | inr none ↦ absurd (let k = none.1 in omega (arith, k)) ])

module _ (list : List ℕ) (count : ℕ) (below : count < length list) where
  pub adds_next : (old middle new : ℕ → Bool) → AddsFirst list count old middle → ((i : ℕ) → new i ≡ (middle i || i == slice_index list count)) → AddsFirst list (count + 1) old new
  adds_next old middle new before added i =
      let x = slice_index list count in let more = take_more list count 0 below in (
        λ on. elim (or_cases (middle i) (i == x) (sym (added i) ∙ on)) [
          | inl was ↦ elim ((before i).0 was) [ inl old ↦ inl old | inr first ↦ inr (rw more (Contains-append_left (take count list) (x ∷ []) i first)) ]
          | inr here ↦ inr (rw more (subst (Contains (take count list ++ x ∷ [])) (sym (eqb-true i x here)) (Contains-push (take count list) x)))
        ],
        λ h. added i ∙ elim h [
          | inl was ↦ rw ((before i).1 (inl was)) refl
          | inr first ↦ elim (Contains-push_cases (take count list) x i (rw more at first)) [
            | inl before' ↦ rw ((before i).1 (inr before')) refl
            | inr here ↦ or_true (middle i) (i == x) (eq-eqb i x (sym here))
          ]
        ],
      )

  -- what is so of so many indices and one more
  pub all_before : (P : ℕ → Type 0) → All P (take (count + 1) list) → All P (take count list)
  all_before P all = subst (All P) (take-take count (count + 1) list (omega arith)) (All-take P count (take (count + 1) list) all)

  pub one_more : (P : ℕ → Type 0) → All P (take (count + 1) list) → P (slice_index list count)
  one_more P all =
      let long = length-take-le (count + 1) list (omega (arith, below)) in
      subst P (get_or-take (count + 1) list count 0 (omega arith)) (All-get_or P (take (count + 1) list) count 0 (omega (arith, long)) all)

-- what is so of each index before a place
pub all_taken : (range : ℕ) (list : List ℕ) (place : ℕ) → place ≤ length list → ((k : ℕ) → k < place → slice_index list k < range) → All (λ i. i < range) (take place list)
all_taken range list place within ok = All-from_get_or (λ i. i < range) (take place list) 0 (λ k below.
    let long = length-take-le place list within in
    let small : k < place = omega (arith, below, long) in
    subst (λ x. x < range) (sym (get_or-take place list k 0 small)) (ok k small))

-- all indices of a list are the first ones, so many as it has
pub adds_whole : (list : List ℕ) (old new : ℕ → Bool) → ((i : ℕ) → (new i ≡ true) ↔ ((old i ≡ true) ⊎ Contains list i)) → AddsFirst list (length list) old new
adds_whole list old new adds = subst (λ l. (i : ℕ) → (new i ≡ true) ↔ ((old i ≡ true) ⊎ Contains l i)) (sym (take_all (length list) list (omega arith))) adds

-- What an addition makes no longer than it must, and no shorter.
pub no_longer : (now new word end : ℕ) → now ≤ end → word < end → new ≤ max now (word + 1) → new ≤ end
no_longer now new word end before one most = omega (arith, before, one, most)

pub no_shorter : (old now new : ℕ) → old ≤ now → now ≤ new → old ≤ new
no_shorter old now new before keeps = omega (arith, before, keeps)

pub next_within : (count len : ℕ) → count < len → count + 1 ≤ len
next_within count len below = omega (arith, below)
