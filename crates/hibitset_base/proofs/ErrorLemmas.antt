-- Errors that are handed on.
use Rattle.std.proofs.Common.{◌≡◌, ℕ, ◌==◌, ◌||◌, Bool, true, false, List, [], ◌∷◌, Result, Ok, Err, IfErr, All, sym, ap, refl, subst}
use Rattle.std.specs.List.{list_any}
use Rattle.std.specs.Result.{IsErrAnd}
use Rattle.std.proofs.lemmas.List.Elements.{All-nil, All-cons}
use Rattle.hibitset_base.specs.Decisions.{eq_same}
use Rattle.hibitset_base.specs.Extension.{IsRefusalBelow}
use Rattle.hibitset_base.specs.declared.build.BuildError.{BuildError}
use Rattle.hibitset_base.specs.declared.build.BuildError.TheVariants.{OutOfRange, Memory}

-- a fact on an error holds of the result that hands it on
pub IfErr-handed_on : {A E : Type 0} (P : E → Type 0) (r : Result A E) (error : E) → IsErrAnd r (λ e. e ≡ error) → P error → IfErr r P
IfErr-handed_on P (Ok a) error same holds = tt
IfErr-handed_on P (Err e) error same holds = subst P (sym same) holds

pub or_true : (a b : Bool) → b ≡ true → (a || b) ≡ true
or_true true b e = refl
or_true false b e = e

true_or : (a b : Bool) → a ≡ true → (a || b) ≡ true
true_or a b e = ap (λ x. x || b) e

-- what holds of each number that some item has holds of each item
All-by_number : {A : Type 0} (number : A → ℕ) (P : ℕ → Type 0) (items : List A) → ((i : ℕ) → list_any (λ x. number x == i) items ≡ true → P i) → All (λ x. P (number x)) items
All-by_number number P [] each = All-nil (λ x. P (number x))
All-by_number number P (x ∷ xs) each =
    All-cons (λ y. P (number y)) x xs (each (number x) (true_or (number x == number x) (list_any (λ y. number y == number x) xs) (eq_same (number x) (number x) refl)))
    (All-by_number number P xs (λ i some. each i (or_true (number x == i) (list_any (λ y. number y == i) xs) some)))

-- an item that lacks room beside these members lies apart from each of them
pub refused_apart : {A : Type 0} (range : ℕ) (number : A → ℕ) (need_separate_room : ℕ → ℕ → Type 0) (needs_allocation : ℕ → Type 0) (holds : ℕ → Bool) (items : List A) → ((i : ℕ) → list_any (λ x. number x == i) items ≡ true → holds i ≡ true)
    → ((i j : ℕ) → holds i ≡ true → needs_allocation j → need_separate_room i j) → (error : BuildError) (count item : ℕ) → IsRefusalBelow range needs_allocation error count item → IsRefusalBelow range (λ i. All (λ x. need_separate_room (number x) i) items) error count item
refused_apart range number need_separate_room needs_allocation holds items members apart (OutOfRange place index) count item is = is
refused_apart range number need_separate_room needs_allocation holds items members apart (Memory place) count item is =
    (is.0, is.1, All-by_number number (λ i. need_separate_room i item) items (λ i some. apart i item (members i some) is.2))
