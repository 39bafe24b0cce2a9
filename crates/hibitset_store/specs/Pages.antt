-- Values in pages.
-- Page p has slots for the indices from p * PAGE on, or none yet. The first slots lie by the number of their index.
use Rattle.std.specs.Prelude.{◌≡◌, ℕ, ◌+◌, ◌*◌, ◌/◌, ◌%◌, ◌<◌, ◌≤◌, ◌==◌, ltb, Bool, true, not, if◌then◌else◌, List, length, drop, slice_index_or, Option, option_and_then, slice_get}
use Rattle.std.specs.List.{filter}
use Rattle.std.specs.Option.{is_some}
use Rattle.std.proofs.Props.{props}
use Rattle.hibitset.specs.BitSet.{has}
use Rattle.hibitset.specs.declared.set.BitSet.{BitSet}
use Rattle.hibitset_base.specs.declared.util.TheConstants.{MAX_EID}
use Rattle.hibitset_store.specs.declared.pages.Pages.{Pages}
use Rattle.hibitset_store.specs.declared.pages.TheConstants.{NO_PAGE, PAGE, MAX_SLOTS_PER_MADE_SLOT}

-- tells whether the page is made whose slots begin there
abbrev pub is_made : ℕ → Bool
is_made start = not (start == NO_PAGE)

-- how many pages of a table are made
abbrev pub pages_made : List ℕ → ℕ
pages_made starts = length (filter is_made starts)

-- where the slots of a page begin
abbrev pub start_in : List ℕ → ℕ → ℕ
start_in starts p = slice_index_or starts p NO_PAGE

module _ {V : Type 0} where
  -- the value in a slot, if there is such a slot and it is not empty
  abbrev pub value_in : List (Option V) → ℕ → Option V
  value_in slots j = option_and_then (λ v. v) (slice_get slots j)

  -- how many slots there are
  abbrev pub slot_count : Pages V → ℕ
  slot_count pages = length pages.slots.items

  -- the slot of an index: its own number in the part that lies in order, and past all slots, where its page is not
  -- made and lies behind that
  abbrev pub slot_of : Pages V → ℕ → ℕ
  slot_of pages i = if ltb i pages.in_order then i else start_in pages.starts.items (i / PAGE) + i % PAGE

  -- the value of an index
  abbrev pub value_at : Pages V → ℕ → Option V
  value_at pages i = value_in pages.slots.items (slot_of pages i)

  -- there is a slot for the value of an index
  abbrev pub HasSlot : Pages V → ℕ → Type 0
  HasSlot pages i = slot_of pages i < slot_count pages

  -- how many slots a page has, as far as it is made; one that is not may lie in the part that lies in order all the
  -- same
  abbrev pub slots_in : Pages V → ℕ → ℕ
  slots_in pages p = if is_made (start_in pages.starts.items p) then PAGE else 0

  -- Each page that is made has its slots, no two indices have the same one, and no index of another page has a value.
  -- The part that lies in order has the slots of whole pages, made or not; each page behind it that is made has its
  -- slots there. All slots are no more than `MAX_SLOTS_PER_MADE_SLOT` times those of the pages made.
  pub record PageTableInvariant (pages : Pages V) : Type 0 where
    pub few : length pages.starts.items ≤ MAX_EID / PAGE
    pub whole : pages.in_order ≡ PAGE * (pages.in_order / PAGE)
    pub ordered : pages.in_order ≤ PAGE * length pages.starts.items
    pub counts : slot_count pages ≡ pages.in_order + PAGE * pages_made (drop (pages.in_order / PAGE) pages.starts.items)
    pub bounded : slot_count pages ≤ MAX_SLOTS_PER_MADE_SLOT * (PAGE * pages_made pages.starts.items)
    pub there : (i : ℕ) → slots_in pages (i / PAGE) ≡ PAGE → HasSlot pages i
    pub apart : (i j : ℕ) → HasSlot pages i → slot_of pages i ≡ slot_of pages j → i ≡ j
    pub made : (i : ℕ) → is_some (value_at pages i) ≡ true → slots_in pages (i / PAGE) ≡ PAGE

  -- the same, shut: it stands in each column that a caller has, and no proof there needs to see into it
  unfoldable pub IsPageTable : Pages V → Type 0
  IsPageTable pages = PageTableInvariant pages

  -- it is a fact
  pub IsPageTable-prop : (pages : Pages V) → IsProp (IsPageTable pages)
  unfolding IsPageTable
  IsPageTable-prop pages = Prim.hlevel props

  -- the same pages, with as many slots
  pub record AreAsMany (old new : Pages V) : Type 0 where
    pub starts : new.starts.items ≡ old.starts.items
    pub order : new.in_order ≡ old.in_order
    pub count : slot_count new ≡ slot_count old

  -- the set has exactly the indices with a value
  abbrev pub Covers : BitSet → Pages V → Type 0
  Covers mask pages = (i : ℕ) → has mask i ≡ is_some (value_at pages i)
