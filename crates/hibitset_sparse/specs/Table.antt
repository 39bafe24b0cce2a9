-- What a contract sees of a table.
use Rattle.std.specs.Prelude.{◌≡◌, ◌+◌, ◌/◌, ◌%◌, ◌<◌, ◌≤◌, ◌^◌, ℕ, length, Option, Some}
use Rattle.std.specs.Vec.{vec_capacity}
use Rattle.hibitset_sparse.specs.Layout.{value_of_place, values_before, word_or_none}
use Rattle.hibitset_sparse.specs.Rank.{rank_in}
use Rattle.hibitset_sparse.specs.PackedArray.{HasRoomFor, value_in}
use Rattle.hibitset_sparse.specs.declared.table.Table.{Table}
use Rattle.hibitset_sparse.specs.declared.table.TheConstants.{PLACES_PER_TABLE}

module _ {T : Type 0} where
  -- the value of a place, if there is one
  abbrev pub value_at : Table T → ℕ → Option T
  value_at table = value_of_place (value_in table.groups) table.items.items

  -- both tables have the same groups and the same values
  pub record IsSameTable (old new : Table T) : Type 0 where
    pub root : new.groups.word ≡ old.groups.word
    pub groups : new.groups.items.items ≡ old.groups.items.items
    pub items : new.items.items ≡ old.items.items

  -- So many values more can be put in without an allocation.
  pub record HasCapacityFor (n : ℕ) (table : Table T) : Type 0 where
    pub items : length table.items.items + n ≤ vec_capacity table.items
    pub groups : HasRoomFor n table.groups

  -- the word of a group of a table
  abbrev pub group_word : Table T → ℕ → ℕ
  group_word table q = word_or_none (value_in table.groups q)

  -- the place has a value
  abbrev pub HasValue : Table T → ℕ → Type 0
  HasValue table i = (x : T) × (value_at table i ≡ Some x)

  -- how many values of a table lie before a place
  abbrev pub values_before_place : Table T → ℕ → ℕ
  values_before_place table i = values_before (value_in table.groups) (i / 64) + rank_in (group_word table (i / 64)) (i % 64)

-- a word that is there is one, and not 0
abbrev pub AreNonzero : Table ℕ → Type 0
AreNonzero words = (p w : ℕ) → p < PLACES_PER_TABLE → value_at words p ≡ Some w → (0 < w) × (w < 2 ^ 64)
