-- What a column ends as, once a loan of a value has ended.
use Rattle.std.specs.Prelude.{◌≡◌, ℕ, Option, Some}
use Rattle.std.specs.Option.{OnSome}
use Rattle.std.specs.Borrow.{Fml, RattleType, MutBor, LendsSo}
use Rattle.hibitset_store.specs.contracts.columns.Column.{the_row}
use Rattle.hibitset_store.specs.declared.columns.Column.{Column}
use Rattle.hibitset_store.specs.Columns.{IsWith, value_of}
use Rattle.hibitset_store.specs.Capacity.{KeepsRoom}

module _ (V : RattleType) (column : MutBor (Column V.Denot)) where
  -- the index ends with the last value behind r, and at `None` the column ends as the same map; the column keeps its
  -- room
  abbrev pub LendsValue : ℕ → Option (MutBor V.Denot) → Fml
  LendsValue id r =
      LendsSo (the_row V) V column r
      (λ new last. OnSome r (IsWith (value_of column.now) id (Some last) (value_of new)) × KeepsRoom column.now new)
      (λ new. ((i : ℕ) → value_of new i ≡ value_of column.now i) × KeepsRoom column.now new)
