-- A walk that is divided, and on the way there goes on without giving an item.
use Rattle.std.specs.Prelude.{ℕ, ◌≤◌, Bool, List}
use Rattle.hibitset_base.specs.Places.{Place}
use Rattle.hibitset_base.specs.WordsRead.{ReadsTo}
use Rattle.hibitset_base.specs.Cursor.{cursor_places, IsOneBelow}
use Rattle.hibitset_base.specs.PlaceHalves.{LiesInWord, AreCut}
use Rattle.hibitset_base.specs.declared.iter.BitIter.{BitIter}
use Rattle.hibitset_base.specs.declared.util.TheConstants.{LAYERS}

module _ {S : Type 0} (holds : S → ℕ → Bool) (word : S → ℕ → ℕ → ℕ) where
  -- The walk has gone on to where all bits that are left lie in one word below a layer.
  pub record IsUndivided (lowest : ℕ) (old new : BitIter S) : Type 0 where
    pub goes : ReadsTo LAYERS (holds old.set) (word old.set) old.reads.count (cursor_places old.cursor) new.reads.count (cursor_places new.cursor)
    pub below : IsOneBelow new.cursor lowest

  -- The walk has gone on, and what it then had left, in one word of a layer from the lowest one on, was cut in two: it
  -- has kept the first part, and the other walk has the second.
  pub record IsDivided (lowest : ℕ) (old new other : BitIter S) : Type 0 where
    pub places : List Place
    pub goes : ReadsTo LAYERS (holds old.set) (word old.set) old.reads.count (cursor_places old.cursor) new.reads.count places
    pub layer : ℕ
    pub from : lowest ≤ layer
    pub lies : LiesInWord LAYERS layer places
    pub cut : AreCut places (cursor_places new.cursor) (cursor_places other.cursor)
