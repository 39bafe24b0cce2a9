-- What a set takes of a range, where it takes what the range gives as an iterator.
use Rattle.std.proofs.Common.{◌≡◌, ◌↔◌, inl, inr, ℕ, zero, suc, ◌+◌, ◌-◌, ◌/◌, ◌^◌, ◌<◌, ◌≤◌, Bool, true, false, ◌==◌, List, [], ◌∷◌, length, get_or, sym, ap, subst, ◌∙◌, arith, eq-eqb}
use Rattle.std.specs.List.{All, list_any}
use Rattle.std.specs.Iterator.{Yields}
use Rattle.std.specs.declared.ops.Range.{Range}
use Rattle.std.proofs.iter.Yields.{nat_range_steps}
use Rattle.std.proofs.lemmas.Bool.{cases_eq, eqb-true}
use Rattle.std.proofs.lemmas.List.Folds.{list_any_at, Any-from_list_any}
use Rattle.std.proofs.lemmas.List.Elements.{All-get_or}
use Rattle.hibitset.specs.Prelude.{IsRefusalBelow, TakesAllBelow, RefusesBelow, BuildError, OutOfRange, Memory, place_of}
use Rattle.hibitset_base.proofs.SliceLemmas.{place_counts}
use Rattle.uses.specs.Lists.{IsRefusalFrom, BeginsWord}

-- the numbers from one on and below another
abbrev pub between : ℕ → ℕ → Range ℕ
between start end = record { start = start; end = end }

-- what the iterator of a range is
abbrev pub BeginsRange : Range ℕ → Range ℕ → Type 0
BeginsRange range it = it ≡ range

-- the items are the numbers from this one on
abbrev CountsFrom : ℕ → List ℕ → Type 0
CountsFrom start items = (k d : ℕ) → k < length items → get_or items k d ≡ start + k

-- The items that a range gave count up from its start, and so many fewer are left.
record Counted (s : Range ℕ) (items : List ℕ) (t : Range ℕ) : Type 0 where
  pub items_are : CountsFrom s.start items
  pub start_is : t.start ≡ s.start + length items
  pub end_is : t.end ≡ s.end
  pub many : length items ≤ s.end - s.start

counted_on : (x : ℕ) (xs : List ℕ) (start next : ℕ) → x ≡ start → next ≡ start + 1 → CountsFrom next xs → CountsFrom start (x ∷ xs)
counted_on x xs start next e f counts zero d below = e ∙ omega arith
counted_on x xs start next e f counts (suc k) d below = counts k d (omega (arith, below)) ∙ omega (arith, f)

counted : (items : List ℕ) (s t : Range ℕ) → Yields nat_range_steps s items t → Counted s items t
counted [] s t h = record {
  items_are = λ k d below. absurd (omega (arith, below));
  start_is = sym (ap (λ (r : Range ℕ). r.start) h) ∙ omega arith;
  end_is = sym (ap (λ (r : Range ℕ). r.end) h);
  many = omega arith;
}
counted (x ∷ xs) s t h =
    let later : Counted h.0 xs t = counted xs h.0 t h.2 in
    let first = h.1 in
    let start = later.start_is in
    let end = later.end_is in
    let many = later.many in
    record {
      items_are = counted_on x xs s.start h.0.start first.1.1 first.1.2 later.items_are;
      start_is = omega (arith, start, first.1.2);
      end_is = end ∙ first.0;
      many = omega (arith, many, first.0, first.1.0, first.1.2);
    }

-- the items that count up from a number have all from it on, so many
among : (start : ℕ) (items : List ℕ) → CountsFrom start items → (i : ℕ) → (list_any (λ x. x == i) items ≡ true) ↔ ((start ≤ i) × (i < start + length items))
among start items counts i = (
  (λ on. let found = Any-from_list_any (λ x. x == i) items on in
      let item : found.1 ≡ i = eqb-true found.1 i found.4 in
      let below : found.0 < length items = found.2 in
      let at : found.1 ≡ start + found.0 = sym found.3 ∙ counts found.0 found.1 below in
      (omega (arith, item, at), omega (arith, item, at, below))),
  (λ h. let k : ℕ = i - start in
      let below : k < length items = omega (arith, h.0, h.1) in
      let at : get_or items k 0 ≡ i = counts k 0 below ∙ omega (arith, h.0) in
      list_any_at (λ x. x == i) items k 0 below (eq-eqb (get_or items k 0) i at)),
)

-- Each number from a start on and below a bound is in range, where so many items that count up are.
range_below : (range start : ℕ) (items : List ℕ) → CountsFrom start items → All (λ x. x < range) items → (k : ℕ) → k < length items → start + k < range
range_below range start items counts all k below = rw (counts k 0 below) at (All-get_or (λ n. n < range) items k 0 below all)

-- What a set of a whole range has.
pub record RangeTaken (range start end : ℕ) (new : ℕ → Bool) : Type 0 where
  pub members : (i : ℕ) → (new i ≡ true) ↔ ((start ≤ i) × (i < end))
  pub in_range : start < end → end ≤ range

pub takes_range : (range start end : ℕ) (new : ℕ → Bool) → TakesAllBelow range BeginsRange nat_range_steps (λ i. i) (between start end) (λ _. false) new → RangeTaken range start end new
takes_range range start end new h =
    let it : Range ℕ = h.0 in
    let items : List ℕ = h.1 in
    let last : Range ℕ = h.3.1.0 in
    let begins : it.start ≡ start = ap (λ (r : Range ℕ). r.start) h.2 in
    let ends : it.end ≡ end = ap (λ (r : Range ℕ). r.end) h.2 in
    let run : Counted it items last = counted items it last h.3.1.1 in
    let none : last.end - last.start ≡ 0 = h.3.1.2.1.0 in
    let many = run.many in
    let last_start = run.start_is in
    let last_end = run.end_is in
    let counts : CountsFrom start items = subst (λ n. CountsFrom n items) begins run.items_are in
    let adds = h.4 in
    let low : length items ≤ end - start = omega (arith, many, begins, ends) in
    let high : end ≤ start + length items = omega (arith, none, last_start, last_end, begins, ends) in
    record {
      members = λ i. (
        (λ on. let k = (among start items counts i).0 (sym (adds.members i) ∙ on) in (k.0, omega (arith, k, low))),
        (λ within. adds.members i ∙ (among start items counts i).1 (within.0, omega (arith, within, high))),
      );
      in_range = λ some. let at = range_below range start items counts adds.in_range (end - start - 1) (omega (arith, some, high)) in omega (arith, at, some);
    }

-- What an error of a set of a range says.
pub record RangeRefused (range start end : ℕ) (error : BuildError) : Type 0 where
  pub place : start + place_of error < end
  pub before : (k : ℕ) → k < place_of error → start + k < range
  pub why : IsRefusalFrom range start error
  pub word : BeginsWord start error

module _ (range : ℕ) (lacks : ℕ → Type 0) (start count item : ℕ) (item_is : item ≡ start + count) (fits : count < 2 ^ 64) where
  why_from : (error : BuildError) → IsRefusalBelow range lacks error count item → IsRefusalFrom range start error
  why_from (OutOfRange place index) h = let at : place ≡ count = place_counts range lacks count item fits (OutOfRange place index) h in (omega (arith, at, item_is, h.1), omega (arith, h.1, h.2))
  why_from (Memory place) h = let at : place ≡ count = place_counts range lacks count item fits (Memory place) h in omega (arith, at, item_is, h.1)

begins_word : (range start : ℕ) (items : List ℕ) (item : ℕ) → CountsFrom start items → item ≡ start + length items → length items < 2 ^ 64
    → (error : BuildError) → IsRefusalBelow range (λ i. All (λ x. x / 64 < i / 64) items) error (length items) item → BeginsWord start error
begins_word range start items item counts item_is fits (OutOfRange place index) h = tt
begins_word range start items item counts item_is fits (Memory place) h =
    let lacks : ℕ → Type 0 = λ i. All (λ x. x / 64 < i / 64) items in
    let at : place ≡ length items = place_counts range lacks (length items) item fits (Memory place) h in
    elim (cases_eq place 0) [
      | inl e ↦ inl e
      | inr ne ↦ inr (
          let k : ℕ = place - 1 in
          let some : 0 < place = omega (arith, ne) in
          let below : k < length items = omega (arith, at, some) in
          let apart : get_or items k 0 / 64 < item / 64 = All-get_or (λ x. x / 64 < item / 64) items k 0 below h.2 in
          let last : get_or items k 0 ≡ start + k = counts k 0 below in
          let here : (start + k) / 64 < (start + place) / 64 = subst (λ n. (start + k) / 64 < n / 64) (item_is ∙ omega (arith, at)) (subst (λ n. n / 64 < item / 64) last apart) in
          omega (arith, here, some))
    ]

pub refused_range : (range start end : ℕ) (error : BuildError) → end < 2 ^ 64 → RefusesBelow range BeginsRange nat_range_steps (λ i. i) (between start end) (λ i j. i / 64 < j / 64) error → RangeRefused range start end error
refused_range range start end error fits h =
    let it : Range ℕ = h.0 in
    let items : List ℕ = h.1 in
    let item : ℕ = h.2 in
    let last : Range ℕ = h.5.0 in
    let begins : it.start ≡ start = ap (λ (r : Range ℕ). r.start) h.4 in
    let ends : it.end ≡ end = ap (λ (r : Range ℕ). r.end) h.4 in
    let run : Counted it items last = counted items it last h.5.1 in
    let last_start = run.start_is in
    let last_end = run.end_is in
    let counts : CountsFrom start items = subst (λ n. CountsFrom n items) begins run.items_are in
    let some : 0 < last.end - last.start = h.5.2.1.0 in
    let item_is : item ≡ start + length items = h.5.2.1.1 ∙ omega (arith, last_start, begins) in
    let short : start + length items < end = omega (arith, some, last_start, last_end, begins, ends) in
    let few : length items < 2 ^ 64 = omega (arith, short, fits) in
    let lacks : ℕ → Type 0 = λ i. All (λ x. x / 64 < i / 64) items in
    let at : place_of error ≡ length items = place_counts range lacks (length items) item few error h.7 in
    record {
      place = omega (arith, at, short);
      before = λ k below. range_below range start items counts h.6 k (omega (arith, at, below));
      why = why_from range lacks start (length items) item item_is few error h.7;
      word = begins_word range start items item counts item_is few error h.7;
    }
