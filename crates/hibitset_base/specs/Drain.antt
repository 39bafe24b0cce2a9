-- What a contract sees of a drain.
use Rattle.std.specs.Prelude.{◌≡◌, ℕ, Bool, not, ◌&&◌, ◌==◌, List, Option, MatchOption}
use Rattle.std.specs.Borrow.{GName}
use Rattle.std.specs.Iterator.{YieldsFirst}
use Rattle.hibitset_base.specs.Places.{items_of}
use Rattle.hibitset_base.specs.Cursor.{cursor_places}
use Rattle.hibitset_base.specs.declared.drain.DrainBitIter.{DrainBitIter}

module _ {T : Type 0} where
  -- the set that is drained, as it is now
  abbrev pub drained_set : DrainBitIter T → T
  drained_set drain = drain.set.now

  -- the ghost name of the reference to the set
  abbrev pub lender : DrainBitIter T → GName
  lender drain = drain.set.ghost_name

  -- the items that the drain has still to give, in order
  unfoldable pub items_to_drain : (T → ℕ → Bool) → DrainBitIter T → List ℕ
  items_to_drain holds drain = items_of (holds (drained_set drain)) (cursor_places drain.cursor)

  -- the set is the same without the item that was given
  abbrev pub IsWithout : (T → ℕ → Bool) → T → Option ℕ → T → Type 0
  IsWithout holds old item new = MatchOption item (new ≡ old) (λ i. (j : ℕ) → holds new j ≡ (holds old j && not (j == i)))

  -- a step gives the first item that is left, and takes it out of the set, which keeps its room
  abbrev pub DrainSteps : (T → ℕ → Bool) → (T → T → Type 0) → DrainBitIter T → Option ℕ → DrainBitIter T → Type 0
  DrainSteps holds keeps_room old item new = YieldsFirst (items_to_drain holds) old item new × (lender new ≡ lender old) × IsWithout holds (drained_set old) item (drained_set new) × keeps_room (drained_set old) (drained_set new)
