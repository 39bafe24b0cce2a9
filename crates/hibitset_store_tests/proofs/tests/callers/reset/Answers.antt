use Rattle.std.proofs.Common.{◌≡◌, ◌∙◌, ◌==◌, ℕ, zero, suc, true, false, List, ◌∷◌, Contains, Option, Some, None, refl, sym, ap, arith, ◌⊎◌, inl, inr}
use Rattle.std.specs.Prelude.{if◌then◌else◌}
use Rattle.std.specs.Option.{is_some, option_map}
use Rattle.std.proofs.lemmas.Bool.Decides.{nat_tests}
use Rattle.hibitset.specs.BitSet.{has}
use Rattle.hibitset_base.specs.Decisions.{same_or_not}
use Rattle.hibitset_base.specs.Walk.{items_left}
use Rattle.hibitset_store.specs.Columns.{Map, IsWith, value_of}
use Rattle.hibitset_store.proofs.CallerLemmas.{none_unlisted}
use Rattle.hibitset_store_tests.proofs.tests.callers.reset.Goals as goal

contains_cases : (y i : ℕ) (xs : List ℕ) → Contains (y ∷ xs) i → (y ≡ i) ⊎ Contains xs i
contains_cases y i xs (zero, below, e) = inl e
contains_cases y i xs (suc k, below, e) = inr (k, omega arith, e)

over_some : (o : Option ℕ) → is_some o ≡ true → option_map {U = ℕ} (λ value. 0) o ≡ Some 0
over_some (Some v) some = refl
over_some None some = absurd (let h : false ≡ true = some in cc)

over_none : (o : Option ℕ) → is_some o ≡ false → option_map {U = ℕ} (λ value. 0) o ≡ None
over_none None none = refl
over_none (Some v) none = absurd (let h : true ≡ false = none in cc)

put_here : (new now : Option ℕ) (i id : ℕ) → new ≡ (if i == id then Some 0 else now) → i ≡ id → new ≡ Some 0
put_here new now i id put here = grind (arith, nat_tests)

put_elsewhere : (new now : Option ℕ) (i id : ℕ) → new ≡ (if i == id then Some 0 else now) → (i ≡ id → ⊥) → new ≡ now
put_elsewhere new now i id put other = grind (arith, nat_tests)

module _ (old now : Map ℕ) (id : ℕ) (left rest : List ℕ) (gave : left ≡ id ∷ rest)
    (done : (i : ℕ) → ¬ Contains left i → now i ≡ option_map {U = ℕ} (λ value. 0) (old i)) (keys : (i : ℕ) → is_some (now i) ≡ is_some (old i)) where
  before : (i : ℕ) → ¬ Contains rest i → (i ≡ id → ⊥) → now i ≡ option_map {U = ℕ} (λ value. 0) (old i)
  before i gone other = done i (λ there. elim (contains_cases id i rest (rw gave at there)) [ inl here ↦ other (sym here) | inr later ↦ gone later ])

  done_some : (new : Map ℕ) (v : ℕ) → now id ≡ Some v → IsWith now id (Some 0) new → (i : ℕ) → ¬ Contains rest i → new i ≡ option_map {U = ℕ} (λ value. 0) (old i)
  done_some new v some put i gone = elim (same_or_not i id) [
    | inl here ↦ put_here (new i) (now i) i id (put i) here ∙ sym (over_some (old i) (sym (keys i) ∙ ap is_some (ap now here ∙ some)))
    | inr other ↦ put_elsewhere (new i) (now i) i id (put i) other ∙ before i gone other
  ]

  keys_some : (new : Map ℕ) (v : ℕ) → now id ≡ Some v → IsWith now id (Some 0) new → (i : ℕ) → is_some (new i) ≡ is_some (old i)
  keys_some new v some put i = elim (same_or_not i id) [
    | inl here ↦ ap is_some (put_here (new i) (now i) i id (put i) here) ∙ (sym (ap is_some (ap now here ∙ some)) ∙ keys i)
    | inr other ↦ ap is_some (put_elsewhere (new i) (now i) i id (put i) other) ∙ keys i
  ]

  done_none : (new : Map ℕ) → now id ≡ None → ((i : ℕ) → new i ≡ now i) → (i : ℕ) → ¬ Contains rest i → new i ≡ option_map {U = ℕ} (λ value. 0) (old i)
  done_none new none same i gone = elim (same_or_not i id) [
    | inl here ↦ same i ∙ (ap now here ∙ (none ∙ sym (over_none (old i) (sym (keys i) ∙ ap is_some (ap now here ∙ none)))))
    | inr other ↦ same i ∙ before i gone other
  ]

pub loop-id-init : goal.loop-id-init
loop-id-init c =
    let old = value_of c.args.column.now in
    let copy = has c.in_ok-mask.mask in
    record {
      done = λ i gone.
          let none : old i ≡ None = none_unlisted old copy (λ j. c.in_ok-mask.ensures.cases.members j ∙ c.mask.ensures.keys j) c.mask.ensures.in_range i (rw (← c.into_iter-id-iterator.ensures.into_iter_gives.items) gone) in
          none ∙ sym (over_none (old i) (ap is_some none));
      keys = λ i. refl;
    }

pub loop-id-preserved-in-Some-get_mut : goal.loop-id-preserved-in-Some-get_mut
loop-id-preserved-in-Some-get_mut c =
    let old = value_of c.args.column.now in
    let now = value_of c.loop-id.column in
    let new = value_of (c.get_mut.follows.lender 0) in
    let left = items_left (λ s. has s.now) c.loop-id.id-iterator in
    let rest = items_left (λ s. has s.now) c.next.new.self in
    let some : now c.in-Some.id ≡ Some c.in-Some-get_mut.value.now = sym c.in-Some-get_mut.ensures.value in
    let put : IsWith now c.in-Some.id (Some 0) new = rw c.in-Some-get_mut.is at (c.get_mut.follows.holds 0).0 in
    record {
      done = done_some old now c.in-Some.id left rest c.in-Some.ensures.steps.0 c.loop-id.invariant.done c.loop-id.invariant.keys new c.in-Some-get_mut.value.now some put;
      keys = keys_some old now c.in-Some.id left rest c.in-Some.ensures.steps.0 c.loop-id.invariant.done c.loop-id.invariant.keys new c.in-Some-get_mut.value.now some put;
    }

pub loop-id-preserved : goal.loop-id-preserved
loop-id-preserved c =
    let old = value_of c.args.column.now in
    let now = value_of c.loop-id.column in
    let new = value_of c.get_mut.follows.lender-at-none in
    let left = items_left (λ s. has s.now) c.loop-id.id-iterator in
    let rest = items_left (λ s. has s.now) c.next.new.self in
    let none : now c.in-Some.id ≡ None = sym (rw c.in_default.is at c.get_mut.ensures.value) in
    record {
      done = done_none old now c.in-Some.id left rest c.in-Some.ensures.steps.0 c.loop-id.invariant.done c.loop-id.invariant.keys new none c.get_mut.follows.holds-at-none.0;
      keys = λ i. ap is_some (c.get_mut.follows.holds-at-none.0 i) ∙ c.loop-id.invariant.keys i;
    }
