-- A page that is made, in order or after all others, and no value changes.
use Rattle.std.proofs.Common.{◌≡◌, ℕ, zero, suc, ◌+◌, ◌-◌, ◌/◌, ◌%◌, ◌*◌, ◌<◌, ◌≤◌, Bool, true, false, cond, List, [], ◌∷◌, ◌++◌, drop, length, set, is_some, refl, sym, ◌∙◌, ap, inl, inr, arith, length-append}
use Rattle.std.specs.List.{filter}
use Rattle.std.specs.Prelude.{◌≢◌, if◌then◌else◌, replicate, take}
use Rattle.std.proofs.lemmas.Bool.{cases_lt}
use Rattle.std.proofs.lemmas.List.{drop-append-le, drop-set-add, drop-set-lt, get_or-drop, get_or-set_other, get_or-set_same, length-drop, length-set, take_all}
use Rattle.hibitset_base.specs.Decisions.{same_or_not}
use Rattle.hibitset_base.specs.declared.util.TheConstants.{MAX_EID}
use Rattle.hibitset_store.specs.declared.pages.Pages.{Pages}
use Rattle.hibitset_store.specs.declared.pages.TheConstants.{NO_PAGE, PAGE, MAX_SLOTS_PER_MADE_SLOT}
use Rattle.hibitset_store.specs.Pages.{PageTableInvariant, HasSlot, is_made, pages_made, slot_count, slot_of, slots_in, start_in, value_at, value_in}
use Rattle.hibitset_store.proofs.PageLemmas.{few_made, few_slots, is_made-below, made_slots, order-within, slot_of-behind, slot_of-ordered, slot_of-same, slot_of-some, placed, value_at-equal, value_at-unmade, value_in-past}

-- the table with pages at its end that are not made
pub start_in-more : (starts : List ℕ) (n p : ℕ) → start_in (starts ++ replicate n NO_PAGE) p ≡ start_in starts p
start_in-more [] zero p = refl
start_in-more [] (suc n) zero = refl
start_in-more [] (suc n) (suc p) = start_in-more [] n p
start_in-more (start ∷ starts) n zero = refl
start_in-more (start ∷ starts) n (suc p) = start_in-more starts n p

pub pages_made-more : (starts : List ℕ) (n : ℕ) → pages_made (starts ++ replicate n NO_PAGE) ≡ pages_made starts
pages_made-more [] zero = refl
pages_made-more [] (suc n) = pages_made-more [] n
pages_made-more (start ∷ starts) n = by (is_made start) (pages_made-more starts n)
  where
    by : (b : Bool) → pages_made (starts ++ replicate n NO_PAGE) ≡ pages_made starts → length (cond b (start ∷ filter is_made (starts ++ replicate n NO_PAGE)) (filter is_made (starts ++ replicate n NO_PAGE))) ≡ length (cond b (start ∷ filter is_made starts) (filter is_made starts))
    by true same = ap suc same
    by false same = same

-- and with a page that is made, which was not
pub pages_made-set : (starts : List ℕ) (page start : ℕ) → page < length starts → start_in starts page ≡ NO_PAGE → is_made start ≡ true → pages_made (set starts page start) ≡ suc (pages_made starts)
pages_made-set [] page start within none made = absurd (omega arith)
pages_made-set (first ∷ starts) zero start within none made = rw (made, none) refl
pages_made-set (first ∷ starts) (suc page) start within none made = by (is_made first) (pages_made-set starts page start (omega arith) none made)
  where
    by : (b : Bool) → pages_made (set starts page start) ≡ suc (pages_made starts) → length (cond b (first ∷ filter is_made (set starts page start)) (filter is_made (set starts page start))) ≡ suc (length (cond b (first ∷ filter is_made starts) (filter is_made starts)))
    by true more = ap suc more
    by false more = more

-- the same of the pages behind the first n
pub pages_made-drop_more : (starts : List ℕ) (n more : ℕ) → n ≤ length starts → pages_made (drop n (starts ++ replicate more NO_PAGE)) ≡ pages_made (drop n starts)
pages_made-drop_more starts n more within = ap pages_made (drop-append-le n starts (replicate more NO_PAGE) within) ∙ pages_made-more (drop n starts) more

pub pages_made-drop_set : (starts : List ℕ) (n page start : ℕ) → n ≤ page → page < length starts → start_in starts page ≡ NO_PAGE → is_made start ≡ true → pages_made (drop n (set starts page start)) ≡ suc (pages_made (drop n starts))
pages_made-drop_set starts n page start behind within none made =
    let k = page - n in
    let at : page ≡ n + k = omega (arith, behind) in
    let long = length-drop n starts in
    ap (λ q. pages_made (drop n (set starts q start))) at
    ∙ (ap pages_made (drop-set-add n starts k start)
    ∙ pages_made-set (drop n starts) k start (omega (arith, long, within, at, behind)) (get_or-drop n starts k NO_PAGE ∙ (ap (start_in starts) (sym at) ∙ none)) made)

-- one more than behind the first n + 1, where page n is made
pub pages_made-drop : (starts : List ℕ) (n : ℕ) → n < length starts → is_made (start_in starts n) ≡ true → pages_made (drop n starts) ≡ suc (pages_made (drop (suc n) starts))
pages_made-drop [] n within made = absurd (omega (arith, within))
pages_made-drop (start ∷ starts) zero within made = rw made refl
pages_made-drop (start ∷ starts) (suc n) within made = pages_made-drop starts n (omega (arith, within)) made

module _ {V : Type 0} where
  -- Pages whose slots are the same are laid out as they were, where their table and their order fit.
  pub PageTableInvariant-kept : (old new : Pages V) → ((i : ℕ) → slot_of new i ≡ slot_of old i) → slot_count new ≡ slot_count old
      → length new.starts.items ≤ MAX_EID / PAGE → new.in_order ≡ PAGE * (new.in_order / PAGE) → new.in_order ≤ PAGE * length new.starts.items
      → slot_count new ≡ new.in_order + PAGE * pages_made (drop (new.in_order / PAGE) new.starts.items)
      → pages_made old.starts.items ≤ pages_made new.starts.items
      → ((i : ℕ) → slots_in new (i / PAGE) ≡ PAGE → HasSlot old i)
      → ((i : ℕ) → is_some (value_at new i) ≡ true → slots_in new (i / PAGE) ≡ PAGE)
      → PageTableInvariant old → PageTableInvariant new
  PageTableInvariant-kept old new slots count few whole ordered counts more there made laid = record {
    few = few;
    whole = whole;
    ordered = ordered;
    counts = counts;
    bounded = let bounded = laid.bounded in omega (arith, bounded, count, more);
    there = λ i here. let slot = slots i in let was = there i here in omega (arith, slot, was, count);
    apart = λ i j here same. let one = slots i in let two = slots j in laid.apart i j (omega (arith, here, one, count)) (omega (arith, one, two, same));
    made = made;
  }

  -- as they are where nothing is new
  pub PageTableInvariant-equal : (old new : Pages V) → new.starts.items ≡ old.starts.items → new.slots.items ≡ old.slots.items → new.in_order ≡ old.in_order → PageTableInvariant old → PageTableInvariant new
  PageTableInvariant-equal old new starts slots order laid = PageTableInvariant-kept old new
      (λ i. slot_of-same old new i order (ap (λ starts. start_in starts (i / PAGE)) starts))
      (ap length slots) (rw starts laid.few) (rw order laid.whole) (rw (starts, order) laid.ordered)
      (ap length slots ∙ (laid.counts ∙ rw (order, starts) refl))
      (rw starts (omega arith))
      (λ i here. laid.there i (sym (same (i / PAGE)) ∙ here))
      (λ i some. same (i / PAGE) ∙ laid.made i (ap is_some (sym (value_at-equal old new starts slots order i)) ∙ some))
      laid
    where
      same : (p : ℕ) → slots_in new p ≡ slots_in old p
      same p = ap (λ starts. if is_made (start_in starts p) then PAGE else 0) starts

  -- as they are where the table goes farther
  pub PageTableInvariant-longer : (old new : Pages V) (n more : ℕ) → new.starts.items ≡ take n old.starts.items ++ replicate more NO_PAGE → new.slots.items ≡ old.slots.items → new.in_order ≡ old.in_order → length old.starts.items ≤ n → length new.starts.items ≤ MAX_EID / PAGE
      → PageTableInvariant old → PageTableInvariant new
  PageTableInvariant-longer old new n more starts slots order short few laid = PageTableInvariant-kept old new slots-new (ap length slots) few (rw order laid.whole)
      (let long = ap length is ∙ length-append old.starts.items (replicate more NO_PAGE) in let ordered = laid.ordered in omega (arith, order, long, ordered))
      (ap length slots ∙ (laid.counts ∙ sym (rw (order, is) (ap (λ made. old.in_order + PAGE * made) (pages_made-drop_more old.starts.items (old.in_order / PAGE) more (let ordered = laid.ordered in omega (arith, ordered)))))))
      (let same = ap pages_made is ∙ pages_made-more old.starts.items more in omega (arith, same))
      (λ i here. laid.there i (sym (in-new (i / PAGE)) ∙ here))
      (λ i some. in-new (i / PAGE) ∙ laid.made i (ap is_some (sym (values i)) ∙ some))
      laid
    where
      is : new.starts.items ≡ old.starts.items ++ replicate more NO_PAGE
      is = starts ∙ ap (λ list. list ++ replicate more NO_PAGE) (take_all n old.starts.items short)

      starts-new : (p : ℕ) → start_in new.starts.items p ≡ start_in old.starts.items p
      starts-new p = rw is (start_in-more old.starts.items more p)

      in-new : (p : ℕ) → slots_in new p ≡ slots_in old p
      in-new p = ap (λ start. if is_made start then PAGE else 0) (starts-new p)

      slots-new : (i : ℕ) → slot_of new i ≡ slot_of old i
      slots-new i = slot_of-same old new i order (starts-new (i / PAGE))

      values : (i : ℕ) → value_at new i ≡ value_at old i
      values i = ap (λ list. value_in list (slot_of new i)) slots ∙ ap (value_in old.slots.items) (slots-new i)

  -- where there is no page there is nothing to lay out
  pub PageTableInvariant-none : (pages : Pages V) → pages.starts.items ≡ [] → pages.slots.items ≡ [] → pages.in_order ≡ 0 → PageTableInvariant pages
  PageTableInvariant-none pages starts slots order = record {
    few = rw starts (omega arith);
    whole = rw order refl;
    ordered = rw order (omega arith);
    counts = ap length slots ∙ sym (rw (order, starts) refl);
    bounded = let none = ap length slots in omega (arith, none);
    there = λ i made. absurd (let none : 0 ≡ PAGE = rw starts at made in omega (arith, none));
    apart = λ i j here same. absurd (let none = ap length slots in omega (arith, none, here));
    made = λ i some. absurd (let none = ap length slots in let here = slot_of-some pages i some in omega (arith, none, here));
  }

  -- A page was made whose indices have slots already, in order.
  module _ (old new : Pages V) (page : ℕ) (laid : PageTableInvariant old) (within : page < length old.starts.items) (ordered : page * PAGE < old.in_order) (none : start_in old.starts.items page ≡ NO_PAGE)
      (starts : new.starts.items ≡ set old.starts.items page (page * PAGE)) (slots : new.slots.items ≡ old.slots.items) (order : new.in_order ≡ old.in_order) where
    start-at : start_in new.starts.items page ≡ page * PAGE
    start-at = rw starts (get_or-set_same old.starts.items page (page * PAGE) NO_PAGE within)

    start-beside : (p : ℕ) → p ≢ page → start_in new.starts.items p ≡ start_in old.starts.items p
    start-beside p other = rw starts (get_or-set_other old.starts.items page p (page * PAGE) NO_PAGE other)

    pub slots_in-ordered : slots_in new page ≡ PAGE
    slots_in-ordered = let few = laid.few in let most = laid.ordered in made_slots (start_in new.starts.items page) (λ none. absurd (omega (arith, start-at, none, few, within)))

    pub slots_in-beside : (p : ℕ) → p ≢ page → slots_in new p ≡ slots_in old p
    slots_in-beside p other = ap (λ start. if is_made start then PAGE else 0) (start-beside p other)

    slots-same : (i : ℕ) → slot_of new i ≡ slot_of old i
    slots-same i = elim (same_or_not (i / PAGE) page) [
      | inl here ↦
          let whole = laid.whole in
          let below : i < old.in_order = omega (arith, here, whole, ordered) in
          slot_of-ordered new i (omega (arith, below, order)) ∙ sym (slot_of-ordered old i below)
      | inr other ↦ slot_of-same old new i order (start-beside (i / PAGE) other)
    ]

    pub value_at-ordered : (i : ℕ) → value_at new i ≡ value_at old i
    value_at-ordered i = ap (λ list. value_in list (slot_of new i)) slots ∙ ap (value_in old.slots.items) (slots-same i)

    pub PageTableInvariant-ordered : PageTableInvariant new
    PageTableInvariant-ordered = PageTableInvariant-kept old new slots-same (ap length slots) (rw (starts, length-set old.starts.items page (page * PAGE)) laid.few) (rw order laid.whole)
        (rw (starts, length-set old.starts.items page (page * PAGE), order) laid.ordered)
        (ap length slots ∙ (laid.counts ∙ sym (rw (order, starts) (ap (λ list. old.in_order + PAGE * pages_made list) (drop-set-lt (old.in_order / PAGE) old.starts.items page (page * PAGE) (let whole = laid.whole in omega (arith, whole, ordered)))))))
        (rw starts (let few = laid.few in let one = pages_made-set old.starts.items page (page * PAGE) within none (is_made-below (page * PAGE) (omega (arith, few, within))) in omega (arith, one)))
        (λ i made. elim (same_or_not (i / PAGE) page) [
          | inl here ↦
              let whole = laid.whole in
              let below : i < old.in_order = omega (arith, here, whole, ordered) in
              let slot = slot_of-ordered old i below in
              let enough = order-within old laid in
              omega (arith, slot, enough, below)
          | inr other ↦ laid.there i (sym (slots_in-beside (i / PAGE) other) ∙ made)
        ])
        (λ i some. elim (same_or_not (i / PAGE) page) [
          | inl here ↦ ap (slots_in new) here ∙ slots_in-ordered
          | inr other ↦ slots_in-beside (i / PAGE) other ∙ laid.made i (ap is_some (sym (value_at-ordered i)) ∙ some)
        ])
        laid

  -- A page was made whose slots come after all others.
  module _ (old new : Pages V) (page start : ℕ) (begins : start ≡ slot_count old) (laid : PageTableInvariant old) (within : page < length old.starts.items) (behind : old.in_order ≤ page * PAGE) (none : start_in old.starts.items page ≡ NO_PAGE)
      (starts : new.starts.items ≡ set old.starts.items page start) (order : new.in_order ≡ old.in_order) (slots : (j : ℕ) → value_in new.slots.items j ≡ value_in old.slots.items j) (count-new : slot_count new ≡ slot_count old + PAGE) where
    pub start-here : start_in new.starts.items page ≡ start
    start-here = rw starts (get_or-set_same old.starts.items page start NO_PAGE within)

    start-there : (p : ℕ) → p ≢ page → start_in new.starts.items p ≡ start_in old.starts.items p
    start-there p other = rw starts (get_or-set_other old.starts.items page p start NO_PAGE other)

    pub made-start : is_made start ≡ true
    made-start = let few = few_slots old laid in is_made-below start (omega (arith, few, begins))

    few-new : length new.starts.items ≤ MAX_EID / PAGE
    few-new = rw (starts, length-set old.starts.items page start) laid.few

    ordered-new : new.in_order ≤ PAGE * length new.starts.items
    ordered-new = rw (starts, length-set old.starts.items page start, order) laid.ordered

    counts-new : slot_count new ≡ new.in_order + PAGE * pages_made (drop (new.in_order / PAGE) new.starts.items)
    counts-new =
        let before = laid.counts in
        let one = pages_made-drop_set old.starts.items (old.in_order / PAGE) page start (omega (arith, behind)) within none made-start in
        rw (order, starts) (omega (arith, count-new, before, one))

    bounded-new : slot_count new ≤ MAX_SLOTS_PER_MADE_SLOT * (PAGE * pages_made new.starts.items)
    bounded-new =
        let bounded = laid.bounded in
        let one = pages_made-set old.starts.items page start within none made-start in
        rw starts (omega (arith, count-new, bounded, one))

    limit : slot_count new < NO_PAGE
    limit =
        let few = few_made (drop (new.in_order / PAGE) new.starts.items) in
        let rest = length-drop (new.in_order / PAGE) new.starts.items in
        let whole = laid.whole in
        omega (arith, few-new, few, rest, counts-new, ordered-new, whole, order)

    slot-here : (i : ℕ) → i / PAGE ≡ page → slot_of new i ≡ slot_count old + i % PAGE
    slot-here i here = slot_of-behind new i (omega (arith, here, behind, order)) ∙ (ap (λ p. start_in new.starts.items p + i % PAGE) here ∙ ap (λ n. n + i % PAGE) (start-here ∙ begins))

    slot-there : (i : ℕ) → i / PAGE ≢ page → slot_of new i ≡ slot_of old i
    slot-there i other = slot_of-same old new i order (start-there (i / PAGE) other)

    pub made-here : slots_in new page ≡ PAGE
    made-here = ap (λ start. if is_made start then PAGE else 0) start-here ∙ rw made-start refl

    pub made-there : (p : ℕ) → p ≢ page → slots_in new p ≡ slots_in old p
    made-there p other = ap (λ start. if is_made start then PAGE else 0) (start-there p other)

    pub value_at-made : (i : ℕ) → value_at new i ≡ value_at old i
    value_at-made i = slots (slot_of new i) ∙ elim (same_or_not (i / PAGE) page) [
      | inl here ↦ value_in-past old.slots.items (slot_of new i) (let slot = slot-here i here in omega (arith, slot)) ∙ sym (value_at-unmade old i laid (ap (start_in old.starts.items) here ∙ none))
      | inr other ↦ ap (value_in old.slots.items) (slot-there i other)
    ]

    -- an index of another page lies in an old slot, if it has one
    old_slot : (i : ℕ) → i / PAGE ≢ page → HasSlot new i → HasSlot old i
    old_slot i other here = let slot = slot-there i other in elim (placed old i laid) [
      | inl there ↦ there
      | inr unmade ↦ absurd (omega (arith, limit, here, slot, unmade))
    ]

    there-new : (i : ℕ) → slots_in new (i / PAGE) ≡ PAGE → HasSlot new i
    there-new i made = elim (same_or_not (i / PAGE) page) [
      | inl here ↦ let slot = slot-here i here in omega (arith, slot, count-new)
      | inr other ↦ let slot = slot-there i other in let there = laid.there i (sym (made-there (i / PAGE) other) ∙ made) in omega (arith, slot, there, count-new)
    ]

    -- the slot of an index of the new page is not that of one of another
    not-there : (i j : ℕ) → i / PAGE ≡ page → j / PAGE ≢ page → HasSlot new i → slot_of new i ≢ slot_of new j
    not-there i j here other has same =
        let first = slot-here i here in
        let before = old_slot j other (omega (arith, has, same)) in
        let second = slot-there j other in
        omega (arith, first, second, same, before)

    apart-new : (i j : ℕ) → HasSlot new i → slot_of new i ≡ slot_of new j → i ≡ j
    apart-new i j here same = elim (same_or_not (i / PAGE) page) [
      | inl one ↦ elim (same_or_not (j / PAGE) page) [
        | inl two ↦ let first = slot-here i one in let second = slot-here j two in omega (arith, first, second, same, one, two)
        | inr two ↦ absurd (not-there i j one two here same)
      ]
      | inr one ↦ elim (same_or_not (j / PAGE) page) [
        | inl two ↦ absurd (not-there j i two one (omega (arith, here, same)) (sym same))
        | inr two ↦ let first = slot-there i one in let second = slot-there j two in laid.apart i j (old_slot i one here) (omega (arith, first, second, same))
      ]
    ]

    made-new : (i : ℕ) → is_some (value_at new i) ≡ true → slots_in new (i / PAGE) ≡ PAGE
    made-new i some = elim (same_or_not (i / PAGE) page) [
      | inl here ↦ ap (slots_in new) here ∙ made-here
      | inr other ↦ made-there (i / PAGE) other ∙ laid.made i (ap is_some (sym (value_at-made i)) ∙ some)
    ]

    pub PageTableInvariant-made : PageTableInvariant new
    PageTableInvariant-made = record { few = few-new; whole = rw order laid.whole; ordered = ordered-new; counts = counts-new; bounded = bounded-new; there = there-new; apart = apart-new; made = made-new }

  -- The part that lies in order takes in the next page, whose slots follow it.
  module _ (old new : Pages V) (page : ℕ) (laid : PageTableInvariant old) (within : page < length old.starts.items) (next : page * PAGE ≡ old.in_order) (begins : start_in old.starts.items page ≡ page * PAGE)
      (starts : new.starts.items ≡ old.starts.items) (slots : new.slots.items ≡ old.slots.items) (order : new.in_order ≡ old.in_order + PAGE) where
    slots-next : (i : ℕ) → slot_of new i ≡ slot_of old i
    slots-next i = elim (cases_lt i old.in_order) [
      | inl below ↦ slot_of-ordered new i (omega (arith, below, order)) ∙ sym (slot_of-ordered old i below)
      | inr past ↦ elim (cases_lt i new.in_order) [
        | inl below ↦
            let here : i / PAGE ≡ page = omega (arith, past, below, order, next) in
            let start = ap (start_in old.starts.items) here ∙ begins in
            let slot = slot_of-behind old i past in
            slot_of-ordered new i below ∙ omega (arith, slot, start, here)
        | inr behind ↦ slot_of-behind new i behind ∙ (ap (λ starts. start_in starts (i / PAGE) + i % PAGE) starts ∙ sym (slot_of-behind old i past))
      ]
    ]

    pub value_at-next : (i : ℕ) → value_at new i ≡ value_at old i
    value_at-next i = ap (λ list. value_in list (slot_of new i)) slots ∙ ap (value_in old.slots.items) (slots-next i)

    pub slots_in-next : (p : ℕ) → slots_in new p ≡ slots_in old p
    slots_in-next p = ap (λ starts. if is_made (start_in starts p) then PAGE else 0) starts

    pub PageTableInvariant-next : PageTableInvariant new
    PageTableInvariant-next =
        let n = old.in_order / PAGE in
        let at : n ≡ page = omega (arith, next) in
        let after : new.in_order / PAGE ≡ suc n = omega (arith, order) in
        let few = laid.few in
        let made : is_made (start_in old.starts.items n) ≡ true = rw (at, begins) (is_made-below (page * PAGE) (omega (arith, few, within))) in
        let less = pages_made-drop old.starts.items n (omega (arith, at, within)) made in
        let counts = laid.counts in
        PageTableInvariant-kept old new slots-next (ap length slots) (rw starts laid.few) (let whole = laid.whole in omega (arith, order, whole))
        (rw starts (omega (arith, order, next, within)))
        (ap length slots ∙ (counts ∙ rw (after, starts) (omega (arith, order, less))))
        (rw starts (omega arith))
        (λ i made. laid.there i (sym (slots_in-next (i / PAGE)) ∙ made))
        (λ i some. slots_in-next (i / PAGE) ∙ laid.made i (ap is_some (sym (value_at-next i)) ∙ some))
        laid

  -- A page was made whose slots come after all others, and the part that lies in order takes it in.
  module _ (old new : Pages V) (page start : ℕ) (begins : start ≡ slot_count old) (laid : PageTableInvariant old) (within : page < length old.starts.items) (next : page * PAGE ≡ old.in_order) (at : start ≡ page * PAGE) (none : start_in old.starts.items page ≡ NO_PAGE)
      (starts : new.starts.items ≡ set old.starts.items page start) (order : new.in_order ≡ old.in_order + PAGE) (slots : (j : ℕ) → value_in new.slots.items j ≡ value_in old.slots.items j) (count-new : slot_count new ≡ slot_count old + PAGE) where
    -- the pages before it does
    abbrev between : Pages V
    between = record { starts = new.starts; slots = new.slots; in_order = old.in_order }

    laid-between : PageTableInvariant between
    laid-between = PageTableInvariant-made old between page start begins laid within (omega (arith, next)) none starts refl slots count-new

    within-between : page < length between.starts.items
    within-between = let same = ap length starts ∙ length-set old.starts.items page start in omega (arith, same, within)

    begins-between : start_in between.starts.items page ≡ page * PAGE
    begins-between = start-here old between page start begins laid within (omega (arith, next)) none starts refl slots count-new ∙ at

    pub value_at-made_next : (i : ℕ) → value_at new i ≡ value_at old i
    value_at-made_next i = value_at-next between new page laid-between within-between next begins-between refl refl order i ∙ value_at-made old between page start begins laid within (omega (arith, next)) none starts refl slots count-new i

    pub PageTableInvariant-made_next : PageTableInvariant new
    PageTableInvariant-made_next = PageTableInvariant-next between new page laid-between within-between next begins-between refl refl order
