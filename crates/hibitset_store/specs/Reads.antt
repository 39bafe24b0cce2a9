-- How many words a walk reads in all.
use Rattle.std.specs.Prelude.{◌≡◌, ℕ, ◌+◌, ◌≤◌, length}
use Rattle.hibitset_base.specs.Walk.{words_read, words_ahead}
use Rattle.hibitset_base.specs.declared.iter.BitIter.{BitIter}

module _ {T : Type 0} where
  -- what it has read, and what it has still to read
  abbrev pub all_reads : (T → ℕ → ℕ → ℕ) → BitIter T → ℕ
  all_reads word walk = words_read walk + length (words_ahead word walk)

  -- A walk has come from old to new: it has read more, and reads as much in all.
  abbrev pub GoesOnReading : (T → ℕ → ℕ → ℕ) → BitIter T → BitIter T → Type 0
  GoesOnReading word old new = (words_read old ≤ words_read new) × (all_reads word new ≡ all_reads word old)
