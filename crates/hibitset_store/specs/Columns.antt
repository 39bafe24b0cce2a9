-- What a contract sees of a column: a finite map from indices to values.
use Rattle.std.specs.Prelude.{◌≡◌, ℕ, true, ◌==◌, if◌then◌else◌, List, [], ◌∷◌, Option, Some, None}
use Rattle.std.specs.List.{All, flat_map}
use Rattle.std.specs.Option.{is_some}
use Rattle.std.specs.Borrow.{Bor}
use Rattle.hibitset_base.specs.Members.{members_below}
use Rattle.hibitset_base.specs.declared.util.TheConstants.{MAX_EID}
use Rattle.hibitset_store.specs.declared.columns.Column.{Column}
use Rattle.hibitset_store.specs.Pages.{value_at}

-- a map from indices to values, by what it has at each number
abbrev pub Map : Type 0 → Type 0
Map V = ℕ → Option V

module _ {V : Type 0} where
  -- the map that a column is
  unfoldable pub value_of : Column V → Map V
  value_of column = value_at column.pages

  -- the new map has this value, or none, at one index, and is the old one elsewhere
  abbrev pub IsWith : Map V → ℕ → Option V → Map V → Type 0
  IsWith old id value new = (i : ℕ) → new i ≡ (if i == id then value else old i)

  -- the keys, ascending
  abbrev pub keys_of : Map V → List ℕ
  keys_of values = members_below MAX_EID (λ i. is_some (values i))

  -- the map has each of these indices
  abbrev pub AreKeys : Map V → List ℕ → Type 0
  AreKeys values = All (λ i. is_some (values i) ≡ true)

  -- an index with its value, where it has one
  abbrev pub entry : ℕ → Option V → List (ℕ × V)
  entry i (Some v) = (i, v) ∷ []
  entry i None = []

  -- those of these indices that the map has, each with its value
  abbrev pub entries : Map V → List ℕ → List (ℕ × V)
  entries values = flat_map (λ i. entry i (values i))

  -- the keys, ascending, each with its value
  abbrev pub entries_of : Map V → List (ℕ × V)
  entries_of values = entries values (keys_of values)

  -- an item, with its value read
  abbrev pub entry_seen : ℕ × Bor V → ℕ × V
  entry_seen (i, value) = (i, value.now)
