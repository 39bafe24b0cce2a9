-- What room a column has: slots for values, in pages, and words for the set of its keys.
use Rattle.std.specs.Prelude.{◌≡◌, ◌≢◌, ℕ, ◌+◌, ◌/◌, ◌<◌, ◌≤◌, ◌==◌, max, ◌⊎◌, length}
use Rattle.hibitset.specs.BitSet.{slice_len}
use Rattle.hibitset_base.specs.Members.{members_below}
use Rattle.hibitset_store.specs.declared.columns.Column.{Column}
use Rattle.hibitset_store.specs.declared.pages.TheConstants.{PAGE}
use Rattle.hibitset_store.specs.Pages.{slot_count, slots_in}

module _ {V : Type 0} where
  -- how many slots a page has that is made: `PAGE`; one that is not counts for none
  unfoldable pub slots : Column V → ℕ → ℕ
  slots column = slots_in column.pages

  -- how many pages the table of pages goes over
  unfoldable pub table_len : Column V → ℕ
  table_len column = length column.pages.starts.items

  -- how many pages are made
  abbrev pub made_pages : Column V → ℕ
  made_pages column = length (members_below (table_len column) (λ p. slots column p == PAGE))

  -- how many slots the list of all has, those of pages that are not made too
  unfoldable pub list_len : Column V → ℕ
  list_len column = slot_count column.pages

  -- how many words of layer 0 the mask has
  unfoldable pub words_len : Column V → ℕ
  words_len column = slice_len column.mask 0

  -- there is room for a value of the index: its page is made, and the mask has its word
  abbrev pub HasRoom : Column V → ℕ → Type 0
  HasRoom column i = (slots column (i / PAGE) ≡ PAGE) × (i / 64 < words_len column)

  -- The new column has the room of the old one.
  pub record KeepsRoom (old new : Column V) : Type 0 where
    pub pages : (p : ℕ) → slots new p ≡ slots old p
    pub table : table_len new ≡ table_len old
    pub list : list_len new ≡ list_len old
    pub words : words_len new ≡ words_len old

  -- The new column has the room of the old one, and no more besides than one index needs.
  pub record MakesRoom (id : ℕ) (old new : Column V) : Type 0 where
    pub page : (slots new (id / PAGE) ≡ slots old (id / PAGE)) ⊎ (slots new (id / PAGE) ≡ PAGE)
    pub others : (p : ℕ) → p ≢ id / PAGE → slots new p ≡ slots old p
    pub table : (table_len old ≤ table_len new) × (table_len new ≤ max (table_len old) (id / PAGE + 1))
    pub words : (words_len old ≤ words_len new) × (words_len new ≤ max (words_len old) (id / 64 + 1))
