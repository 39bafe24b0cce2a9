-- The value of an index, after a slot has changed, and where its slot is.
use Rattle.std.proofs.Common.{◌≡◌, ℕ, zero, suc, ◌+◌, ◌*◌, ◌/◌, ◌%◌, ◌<◌, ◌≤◌, ◌==◌, Bool, true, false, cond, not, ap, slice_index_or, ◌&&◌, ◌||◌, List, [], ◌∷◌, drop, set, length, Option, Some, None, is_some, refl, sym, ◌∙◌, inl, inr, arith}
use Rattle.std.specs.List.{filter}
use Rattle.std.specs.Prelude.{◌≢◌, if◌then◌else◌, ◌⊎◌, option_and_then}
use Rattle.std.proofs.lemmas.Bool.{cases_lt, false≢true, le-ltb, lt-ltb}
use Rattle.std.proofs.lemmas.List.{get_or_default, get_or_past, length-drop}
use Rattle.std.proofs.lemmas.Option.{slice_get_read}
use Rattle.hibitset_base.specs.Decisions.{eq_other, eq_same, same_or_not}
use Rattle.hibitset_store.specs.declared.pages.Pages.{Pages}
use Rattle.hibitset_store.specs.declared.pages.TheConstants.{NO_PAGE, PAGE}
use Rattle.hibitset_store.specs.PageLoan.{written_over}
use Rattle.hibitset_store.specs.Pages.{PageTableInvariant, HasSlot, is_made, pages_made, slot_count, slot_of, slots_in, start_in, value_at, value_in}

-- the set of the keys, after one key was taken out or put in
pub is_some-without : {V : Type 0} (i id : ℕ) (had : Bool) (was new : Option V) → had ≡ is_some was → new ≡ (if i == id then None else was) → (had && not (i == id)) ≡ is_some new
is_some-without i id had was new covers put = rw put (by (i == id) had was covers)
  where
    by : {V : Type 0} (b had : Bool) (was : Option V) → had ≡ is_some was → (had && not b) ≡ is_some (if b then None else was)
    by true true was covers = refl
    by true false was covers = refl
    by false true was covers = covers
    by false false was covers = covers

pub is_some-with : {V : Type 0} (i id : ℕ) (had : Bool) (was new : Option V) (value : V) → had ≡ is_some was → new ≡ (if i == id then Some value else was) → (had || i == id) ≡ is_some new
is_some-with i id had was new value covers put = rw put (by (i == id) had was value covers)
  where
    by : {V : Type 0} (b had : Bool) (was : Option V) (value : V) → had ≡ is_some was → (had || b) ≡ is_some (if b then Some value else was)
    by true true was value covers = refl
    by true false was value covers = refl
    by false true was value covers = covers
    by false false was value covers = covers

-- and after a key was given another value
pub is_some-again : {V : Type 0} (i id : ℕ) (values : ℕ → Option V) (value : V) (new : Option V) → is_some (values id) ≡ true → new ≡ (if i == id then Some value else values i) → is_some (values i) ≡ is_some new
is_some-again i id values value new key put = elim (same_or_not i id) [
  | inl here ↦ rw (put, eq_same i id here) (ap (λ i. is_some (values i)) here ∙ key)
  | inr other ↦ rw (put, eq_other i id other) refl
]

-- and after a value was written over
pub is_some-over : {V : Type 0} (i id : ℕ) (was new : Option V) (last : V) → new ≡ (if i == id then written_over was last else was) → is_some was ≡ is_some new
is_some-over i id was new last put = rw put (by (i == id) was last)
  where
    by : {V : Type 0} (b : Bool) (was : Option V) (last : V) → is_some was ≡ is_some (if b then written_over was last else was)
    by true (Some value) last = refl
    by true None last = refl
    by false was last = refl

-- nothing is written over where there is no value
pub written_over-none : {V : Type 0} (i id : ℕ) (was : Option V) (last : V) → (i ≡ id → was ≡ None) → was ≡ (if i == id then written_over was last else was)
written_over-none i id was last none = elim (same_or_not i id) [
  | inl here ↦ rw (eq_same i id here, none here) refl
  | inr other ↦ rw (eq_other i id other) refl
]

-- and where one value is put back, all are as they were
pub put_back : {V : Type 0} (i id : ℕ) (values : ℕ → Option V) (value : Option V) → values id ≡ value → (if i == id then value else values i) ≡ values i
put_back i id values value same = elim (same_or_not i id) [
  | inl here ↦ rw (eq_same i id here) (sym same ∙ ap values (sym here))
  | inr other ↦ rw (eq_other i id other) refl
]

-- an index that is not a key has no value
pub no_value : {V : Type 0} (had : Bool) (value : Option V) → had ≡ is_some value → had ≡ false → value ≡ None
no_value had None covers none = refl
no_value had (Some value) covers none = absurd (let h : false ≡ true = sym none ∙ covers in cc)

-- a page that is made has all its slots
pub made_slots : (start : ℕ) → start ≢ NO_PAGE → (if is_made start then PAGE else 0) ≡ PAGE
made_slots start made = rw (eq_other start NO_PAGE made) refl

-- a page is made whose slots begin before the end of all
pub is_made-below : (start : ℕ) → start < NO_PAGE → is_made start ≡ true
is_made-below start below = rw (eq_other start NO_PAGE (λ is. absurd (omega (arith, below, is)))) refl

-- no more pages are made than there are in the table
pub few_made : (starts : List ℕ) → pages_made starts ≤ length starts
few_made [] = omega arith
few_made (start ∷ starts) = by (is_made start) (few_made starts)
  where
    by : (b : Bool) → pages_made starts ≤ length starts → length (cond b (start ∷ filter is_made starts) (filter is_made starts)) ≤ suc (length starts)
    by true few = omega (arith, few)
    by false few = omega (arith, few)

module _ {V : Type 0} where
  -- past the last slot there is no value
  pub value_in-past : (slots : List (Option V)) (j : ℕ) → length slots ≤ j → value_in slots j ≡ None
  value_in-past [] j past = refl
  value_in-past (value ∷ slots) zero past = absurd (omega arith)
  value_in-past (value ∷ slots) (suc j) past = value_in-past slots j (omega arith)

  within : (slots : List (Option V)) (j : ℕ) → is_some (value_in slots j) ≡ true → j < length slots
  within [] j some = absurd (let h : false ≡ true = some in cc)
  within (value ∷ slots) zero some = omega arith
  within (value ∷ slots) (suc j) some = omega (arith, within slots j some)

  -- an index that has a value has a slot
  pub slot_of-some : (pages : Pages V) (i : ℕ) → is_some (value_at pages i) ≡ true → HasSlot pages i
  slot_of-some pages i some = within pages.slots.items (slot_of pages i) some

  -- its value is what is read there
  pub value-of_slot : (pages : Pages V) (i slot : ℕ) (value : Option V) → HasSlot pages i → slot ≡ slot_of pages i → value ≡ slice_index_or pages.slots.items slot value → value_at pages i ≡ value
  value-of_slot pages i slot value there here read =
      ap (value_in pages.slots.items) (sym here)
      ∙ ap (option_and_then (λ v. v)) (slice_get_read pages.slots.items (slot_count pages) slot value refl (omega (arith, here, there)) read)

  -- an index in the part that lies in order has the slot of its own number
  pub slot_of-ordered : (pages : Pages V) (i : ℕ) → i < pages.in_order → slot_of pages i ≡ i
  slot_of-ordered pages i below = rw (lt-ltb i pages.in_order below) refl

  -- and one behind it that which the table tells
  pub slot_of-behind : (pages : Pages V) (i : ℕ) → pages.in_order ≤ i → slot_of pages i ≡ start_in pages.starts.items (i / PAGE) + i % PAGE
  slot_of-behind pages i past = rw (le-ltb i pages.in_order past) refl

  -- an index has the same slot where as many lie in order and its page begins at the same slot
  pub slot_of-same : (old new : Pages V) (i : ℕ) → new.in_order ≡ old.in_order → start_in new.starts.items (i / PAGE) ≡ start_in old.starts.items (i / PAGE) → slot_of new i ≡ slot_of old i
  slot_of-same old new i order start = rw (order, start) refl

  -- what a slot has after one is changed
  pub value_in-set_same : (slots : List (Option V)) (j : ℕ) (value : Option V) → j < length slots → value_in (set slots j value) j ≡ value
  value_in-set_same [] j value within = absurd (omega (arith, within))
  value_in-set_same (first ∷ slots) zero value within = refl
  value_in-set_same (first ∷ slots) (suc j) value within = value_in-set_same slots j value (omega (arith, within))

  pub value_in-set_other : (slots : List (Option V)) (j k : ℕ) (value : Option V) → k ≢ j → value_in (set slots j value) k ≡ value_in slots k
  value_in-set_other [] j k value other = refl
  value_in-set_other (first ∷ slots) zero zero value other = absurd (other refl)
  value_in-set_other (first ∷ slots) zero (suc k) value other = refl
  value_in-set_other (first ∷ slots) (suc j) zero value other = refl
  value_in-set_other (first ∷ slots) (suc j) (suc k) value other = value_in-set_other slots j k value (λ same. other (ap suc same))

  -- the same starts and slots are laid out in the same way
  pub value_at-equal : (old new : Pages V) → new.starts.items ≡ old.starts.items → new.slots.items ≡ old.slots.items → new.in_order ≡ old.in_order → (i : ℕ) → value_at new i ≡ value_at old i
  value_at-equal old new starts slots order i = ap (value_in new.slots.items) (slot_of-same old new i order (ap (λ starts. start_in starts (i / PAGE)) starts)) ∙ ap (λ list. value_in list (slot_of old i)) slots

  -- and each index, where the slot is that of one
  pub value_at-put : (old new : Pages V) (id : ℕ) (value : Option V) → PageTableInvariant old → HasSlot old id → new.starts.items ≡ old.starts.items → new.in_order ≡ old.in_order → new.slots.items ≡ set old.slots.items (slot_of old id) value
      → (i : ℕ) → value_at new i ≡ (if i == id then value else value_at old i)
  value_at-put old new id value laid there starts order slots i =
      ap (value_in new.slots.items) (slot_of-same old new i order (ap (λ starts. start_in starts (i / PAGE)) starts))
      ∙ (ap (λ list. value_in list (slot_of old i)) slots
      ∙ elim (same_or_not i id) [
        | inl here ↦ ap (λ i. value_in (set old.slots.items (slot_of old id) value) (slot_of old i)) here ∙ (value_in-set_same old.slots.items (slot_of old id) value there ∙ sym (rw (eq_same i id here) refl))
        | inr other ↦ value_in-set_other old.slots.items (slot_of old id) (slot_of old i) value (λ same. other (sym (laid.apart id i there (sym same)))) ∙ sym (rw (eq_other i id other) refl)
      ])

  -- no more slots than the whole table would have
  pub most_slots : (pages : Pages V) → PageTableInvariant pages → slot_count pages ≤ PAGE * length pages.starts.items
  most_slots pages laid =
      let n = pages.in_order / PAGE in
      let few = few_made (drop n pages.starts.items) in
      let rest = length-drop n pages.starts.items in
      omega (arith, few, rest, laid.counts, laid.whole, laid.ordered)

  -- so there are fewer than would reach to those of a page that is not made
  pub few_slots : (pages : Pages V) → PageTableInvariant pages → slot_count pages < NO_PAGE
  few_slots pages laid = let most = most_slots pages laid in omega (arith, laid.few, most)

  -- the part that lies in order has its slots
  pub order-within : (pages : Pages V) → PageTableInvariant pages → pages.in_order ≤ slot_count pages
  order-within pages laid = omega (arith, laid.counts)

  -- each index has a slot, or none of those that there may be
  pub placed : (pages : Pages V) (i : ℕ) → PageTableInvariant pages → HasSlot pages i ⊎ (NO_PAGE ≤ slot_of pages i)
  placed pages i laid = elim (cases_lt i pages.in_order) [
    | inl below ↦ inl (let slot = slot_of-ordered pages i below in let order = order-within pages laid in omega (arith, slot, order, below))
    | inr past ↦ elim (same_or_not (start_in pages.starts.items (i / PAGE)) NO_PAGE) [
      | inl none ↦ inr (let slot = slot_of-behind pages i past in omega (arith, slot, none))
      | inr made ↦ inl (laid.there i (made_slots (start_in pages.starts.items (i / PAGE)) made))
    ]
  ]

  -- a page has no slots where it is not made
  pub unmade_slots : (pages : Pages V) (p : ℕ) → start_in pages.starts.items p ≡ NO_PAGE → slots_in pages p ≡ 0
  unmade_slots pages p none = ap (λ start. if is_made start then PAGE else 0) none

  -- an index whose page is not made has no value
  pub value_at-unmade : (pages : Pages V) (i : ℕ) → PageTableInvariant pages → start_in pages.starts.items (i / PAGE) ≡ NO_PAGE → value_at pages i ≡ None
  value_at-unmade pages i laid none = by (value_at pages i) (laid.made i)
    where
      by : (value : Option V) → (is_some value ≡ true → slots_in pages (i / PAGE) ≡ PAGE) → value ≡ None
      by None made = refl
      by (Some value) made = absurd (let here = made refl in let no = unmade_slots pages (i / PAGE) none in omega (arith, here, no))

  -- the page of an index that has a value stands in the table
  pub page-of_some : (pages : Pages V) (i : ℕ) → PageTableInvariant pages → is_some (value_at pages i) ≡ true → i / PAGE < length pages.starts.items
  page-of_some pages i laid some = elim (cases_lt (i / PAGE) (length pages.starts.items)) [
    | inl within ↦ within
    | inr past ↦ absurd (false≢true (sym (ap is_some (value_at-unmade pages i laid (get_or_past pages.starts.items (i / PAGE) NO_PAGE past))) ∙ some))
  ]

  -- where its slots begin, as the table is read
  pub start-of_some : (pages : Pages V) (i start : ℕ) → PageTableInvariant pages → is_some (value_at pages i) ≡ true → start ≡ slice_index_or pages.starts.items (i / PAGE) start → start ≡ start_in pages.starts.items (i / PAGE)
  start-of_some pages i start laid some read = read ∙ get_or_default pages.starts.items (i / PAGE) start NO_PAGE (page-of_some pages i laid some)

  -- and its value, as its slot is read
  pub value-of_some : (pages : Pages V) (i slot : ℕ) (value : Option V) → is_some (value_at pages i) ≡ true → slot ≡ slot_of pages i → value ≡ slice_index_or pages.slots.items slot value → value_at pages i ≡ value
  value-of_some pages i slot value some here read = let there = slot_of-some pages i some in value-of_slot pages i slot value there here read
