-- Pages that are laid out in order: each value is moved to the slot of its index's own number.
use Rattle.std.proofs.Common.{◌≡◌, ℕ, ◌-◌, ◌*◌, ◌/◌, ◌<◌, ◌≤◌, zero, suc, Bool, true, false, cond, List, [], ◌∷◌, drop, length, set, Option, None, is_some, refl, sym, ◌∙◌, ap, inl, inr, arith}
use Rattle.std.specs.List.{filter}
use Rattle.std.specs.Prelude.{◌==◌, ◌⊎◌, if◌then◌else◌}
use Rattle.std.proofs.lemmas.Bool.{cases_lt, false≢true}
use Rattle.std.proofs.lemmas.List.{get_or_past}
use Rattle.std.proofs.Math.Seq.{drop-length}
use Rattle.hibitset_base.specs.Decisions.{eq_other, eq_same, same_or_not}
use Rattle.hibitset_base.specs.Members.{members_below}
use Rattle.hibitset_base.specs.declared.util.TheConstants.{MAX_EID}
use Rattle.hibitset_base.proofs.CallerLemmas.{after_first, none_at_all}
use Rattle.hibitset_base.proofs.FirstLemmas.{first_below}
use Rattle.hibitset_store.specs.declared.pages.Pages.{Pages}
use Rattle.hibitset_store.specs.declared.pages.TheConstants.{NO_PAGE, PAGE, MAX_SLOTS_PER_MADE_SLOT}
use Rattle.hibitset_store.specs.Pages.{AreAsMany, PageTableInvariant, is_made, pages_made, slot_count, slot_of, slots_in, start_in, value_at, value_in}
use Rattle.hibitset_store.proofs.CapacityLemmas.{PageTableInvariant-put}
use Rattle.hibitset_store.proofs.PageLemmas.{is_some-without, no_value, slot_of-behind, slot_of-ordered, unmade_slots, value_at-unmade, value_in-past, value_in-set_other, value_in-set_same}

-- no more pages are made behind the first n than in all
pages_made-drop_few : (n : ℕ) (starts : List ℕ) → pages_made (drop n starts) ≤ pages_made starts
pages_made-drop_few zero starts = omega arith
pages_made-drop_few (suc n) [] = omega arith
pages_made-drop_few (suc n) (start ∷ starts) = by (is_made start) (pages_made-drop_few n starts)
  where
    by : (b : Bool) → pages_made (drop n starts) ≤ pages_made starts → pages_made (drop n starts) ≤ length (cond b (start ∷ filter is_made starts) (filter is_made starts))
    by true few = omega (arith, few)
    by false few = few

module _ {V : Type 0} (old : Pages V) (laid : PageTableInvariant old) where
  -- the table goes farther than each index with a value
  pub within-table : (i : ℕ) → is_some (value_at old i) ≡ true → i < PAGE * length old.starts.items
  within-table i some = elim (cases_lt (i / PAGE) (length old.starts.items)) [
    | inl within ↦ omega (arith, within)
    | inr past ↦ absurd (let made = laid.made i some in let none = unmade_slots old (i / PAGE) (get_or_past old.starts.items (i / PAGE) NO_PAGE past) in omega (arith, made, none))
  ]

  -- where no value is left that lies below the range, none is left at all
  pub none-left : members_below MAX_EID (λ i. is_some (value_at old i)) ≡ [] → (i : ℕ) → value_at old i ≡ None
  none-left ended i =
      let none = none_at_all MAX_EID (λ i. is_some (value_at old i)) (λ i some. let within = within-table i some in let few = laid.few in omega (arith, within, few)) ended i in
      no_value (is_some (value_at old i)) (value_at old i) refl none

-- Values that are moved, one after another.
module _ {V : Type 0} (first : Pages V) where
  -- an index's value lies where it was, or in the slot of the index's own number
  abbrev pub LiesInOne : Pages V → List (Option V) → ℕ → Type 0
  LiesInOne pages slots i = ((value_at pages i ≡ value_at first i) × (value_in slots i ≡ None)) ⊎ ((value_at pages i ≡ None) × (value_in slots i ≡ value_at first i))

  -- what is taken out was there at first
  taken : (pages : Pages V) (slots : List (Option V)) (id : ℕ) → is_some (value_at pages id) ≡ true → LiesInOne pages slots id → value_at pages id ≡ value_at first id
  taken pages slots id some (inl (same, empty)) = same
  taken pages slots id some (inr (none, there)) = absurd (false≢true (sym (ap is_some none) ∙ some))

  moved-one : (old new : Pages V) (slots : List (Option V)) (id : ℕ) (value : Option V) → is_some (value_at old id) ≡ true → value ≡ value_at old id → id < length slots
      → ((i : ℕ) → value_at new i ≡ (if i == id then None else value_at old i)) → ((i : ℕ) → LiesInOne old slots i) → (i : ℕ) → LiesInOne new (set slots id value) i
  moved-one old new slots id value some was within without one i = elim (same_or_not i id) [
    | inl here ↦ inr (
      without i ∙ rw (eq_same i id here) refl,
      ap (value_in (set slots id value)) here ∙ (value_in-set_same slots id value within ∙ (was ∙ (taken old slots id some (one id) ∙ ap (value_at first) (sym here)))),
    )
    | inr other ↦
        let same : value_at new i ≡ value_at old i = without i ∙ rw (eq_other i id other) refl in
        let beside = value_in-set_other slots id i value other in
        elim (one i) [
          | inl (stays, empty) ↦ inl (same ∙ stays, beside ∙ empty)
          | inr (gone, there) ↦ inr (same ∙ gone, beside ∙ there)
        ]
  ]

  -- those of `keys` are to be moved still
  pub record AreMoving (keys : List ℕ) (pages : Pages V) (slots : List (Option V)) : Type 0 where
    pub laid_out : PageTableInvariant pages
    pub starts : pages.starts.items ≡ first.starts.items
    pub left : keys ≡ members_below MAX_EID (λ i. is_some (value_at pages i))
    pub one : (i : ℕ) → LiesInOne pages slots i

  -- the first of them has a value
  pub first-left : (keys rest : List ℕ) (id : ℕ) (pages : Pages V) (slots : List (Option V)) → AreMoving keys pages slots → keys ≡ id ∷ rest → is_some (value_at pages id) ≡ true
  first-left keys rest id pages slots moving next = (first_below MAX_EID (λ i. is_some (value_at pages i)) id rest (sym moving.left ∙ next)).stands

  -- and once it is moved, the others are left
  pub AreMoving-next : (keys rest : List ℕ) (id : ℕ) (old new : Pages V) (slots : List (Option V)) (value : Option V) → AreMoving keys old slots → keys ≡ id ∷ rest → value ≡ value_at old id → id < length slots → AreAsMany old new
      → ((i : ℕ) → value_at new i ≡ (if i == id then None else value_at old i)) → AreMoving rest new (set slots id value)
  AreMoving-next keys rest id old new slots value moving next was within many without =
      let some = first-left keys rest id old slots moving next in
      record {
        laid_out = PageTableInvariant-put old new id None moving.laid_out many (moving.laid_out.made id some) without;
        starts = many.starts ∙ moving.starts;
        left = after_first MAX_EID (λ i. is_some (value_at old i)) (λ i. is_some (value_at new i)) id rest (sym moving.left ∙ next) (λ i. sym (is_some-without i id (is_some (value_at old i)) (value_at old i) (value_at new i) refl (without i)));
        one = moved-one old new slots id value some was within without moving.one;
      }

  -- where none is left, each lies in its new slot
  pub moved-all : (keys : List ℕ) (pages : Pages V) (slots : List (Option V)) → AreMoving keys pages slots → keys ≡ [] → (i : ℕ) → value_in slots i ≡ value_at first i
  moved-all keys pages slots moving ended i = elim (moving.one i) [
    | inl (stays, empty) ↦ empty ∙ (sym (none-left pages moving.laid_out (sym moving.left ∙ ended) i) ∙ stays)
    | inr (gone, there) ↦ there
  ]

module _ {V : Type 0} (old : Pages V) (laid : PageTableInvariant old) where
  -- All values were moved.
  module _ (new : Pages V) (starts : new.starts.items ≡ old.starts.items) (order : new.in_order ≡ PAGE * length old.starts.items) (count : slot_count new ≡ PAGE * length old.starts.items) (worth : length old.starts.items * PAGE ≤ MAX_SLOTS_PER_MADE_SLOT * (slot_count old - old.in_order)) (moved : (i : ℕ) → value_in new.slots.items i ≡ value_at old i) where
    -- an index past the table has no page
    past-table : (i : ℕ) → new.in_order ≤ i → start_in old.starts.items (i / PAGE) ≡ NO_PAGE
    past-table i past = get_or_past old.starts.items (i / PAGE) NO_PAGE (omega (arith, past, order))

    -- nor a slot
    slot-past : (i : ℕ) → new.in_order ≤ i → NO_PAGE ≤ slot_of new i
    slot-past i past =
        let slot = slot_of-behind new i past in
        let start = ap (λ starts. start_in starts (i / PAGE)) starts ∙ past-table i past in
        omega (arith, slot, start)

    limit : slot_count new < NO_PAGE
    limit = let few = laid.few in omega (arith, few, count)

    pub value_at-in_order : (i : ℕ) → value_at new i ≡ value_at old i
    value_at-in_order i = elim (cases_lt i new.in_order) [
      | inl below ↦ ap (value_in new.slots.items) (slot_of-ordered new i below) ∙ moved i
      | inr past ↦ value_in-past new.slots.items (slot_of new i) (let slot = slot-past i past in omega (arith, slot, limit)) ∙ sym (value_at-unmade old i laid (past-table i past))
    ]

    in-table : (i : ℕ) → slots_in new (i / PAGE) ≡ PAGE → i < new.in_order
    in-table i made = elim (cases_lt i new.in_order) [
      | inl below ↦ below
      | inr past ↦ absurd (let none = unmade_slots new (i / PAGE) (ap (λ starts. start_in starts (i / PAGE)) starts ∙ past-table i past) in omega (arith, none, made))
    ]

    pub PageTableInvariant-in_order : PageTableInvariant new
    PageTableInvariant-in_order = record {
      few = rw starts laid.few;
      whole = omega (arith, order);
      ordered = rw starts (omega (arith, order));
      counts =
          let all : new.in_order / PAGE ≡ length old.starts.items = omega (arith, order) in
          let none : pages_made (drop (new.in_order / PAGE) new.starts.items) ≡ 0 = rw (all, starts, drop-length old.starts.items) refl in
          omega (arith, count, order, none);
      bounded =
          let counts = laid.counts in
          let few = pages_made-drop_few (old.in_order / PAGE) old.starts.items in
          rw starts (omega (arith, count, worth, counts, few));
      there = λ i made. let below = in-table i made in let slot = slot_of-ordered new i below in omega (arith, slot, below, order, count);
      apart = λ i j here same. elim (cases_lt i new.in_order) [
        | inl one ↦ elim (cases_lt j new.in_order) [
          | inl two ↦ sym (slot_of-ordered new i one) ∙ (same ∙ slot_of-ordered new j two)
          | inr two ↦ absurd (let far = slot-past j two in omega (arith, far, same, here, limit))
        ]
        | inr one ↦ absurd (let far = slot-past i one in omega (arith, far, here, limit))
      ];
      made = λ i some. ap (λ starts. if is_made (start_in starts (i / PAGE)) then PAGE else 0) starts ∙ laid.made i (ap is_some (sym (value_at-in_order i)) ∙ some);
    }
