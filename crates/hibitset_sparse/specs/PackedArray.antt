-- What a contract sees of a row: values of bits, those of the bits that are set, side by side.
use Rattle.std.specs.Prelude.{ℕ, ◌+◌, ◌≤◌, ◌⊎◌, length, Option, slice_get}
use Rattle.std.specs.Vec.{vec_capacity}
use Rattle.hibitset_sparse.specs.Rank.{value_from}
use Rattle.hibitset_sparse.specs.declared.packed_array.PackedArray.{PackedArray}

module _ {T : Type 0} where
  -- the value of a bit
  abbrev pub value_in : PackedArray T → ℕ → Option T
  value_in row = value_from (slice_get row.items.items) row.word

  -- So many values more can be put in without an allocation: there are never more than 64.
  abbrev pub HasRoomFor : ℕ → PackedArray T → Type 0
  HasRoomFor n row = (length row.items.items + n ≤ vec_capacity row.items) ⊎ (64 ≤ vec_capacity row.items)
