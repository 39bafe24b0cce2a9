-- What a contract sees of a walk over columns that is under way.
use Rattle.std.specs.Prelude.{ℕ, Bool, List, Option}
use Rattle.std.specs.Borrow.{Bor}
use Rattle.std.specs.Iterator.{YieldsFirstBy}
use Rattle.hibitset.specs.BitSet.{has, word_of}
use Rattle.hibitset_base.specs.Walk.{items_left, words_read}
use Rattle.hibitset_base.specs.declared.like.BitSetLike.{Ghosts}
use Rattle.hibitset_store.specs.declared.walks.Join.{Join}
use Rattle.hibitset_store.specs.declared.walks.JoinMasked.{JoinMasked}
use Rattle.hibitset_store.specs.declared.walks.Iter.{Iter}
use Rattle.hibitset_store.specs.Columns.{entries, entry_seen, value_of}
use Rattle.hibitset_store.specs.Joins.{pairs, seen}
use Rattle.hibitset_store.specs.Masks.{in_masks, masks_word, in_three, three_word}
use Rattle.hibitset_store.specs.Reads.{all_reads, GoesOnReading}

module _ {V W : Type 0} where
  -- the pairs that a join has still to give
  abbrev pub pairs_left : Join V W → List (ℕ × V × W)
  pairs_left join = pairs (value_of join.first.now) (value_of join.second.now) (items_left in_masks join.walk)

  -- how many words of each mask it has read, and how many when it has ended
  abbrev pub reads_of : Join V W → ℕ
  reads_of join = words_read join.walk

  abbrev pub reads_in_all : Join V W → ℕ
  reads_in_all join = all_reads masks_word join.walk

  -- a step gives the first pair that is left, and goes on reading
  abbrev pub JoinSteps : Join V W → Option (ℕ × Bor V × Bor W) → Join V W → Type 0
  JoinSteps old item new = YieldsFirstBy seen pairs_left old item new × GoesOnReading masks_word old.walk new.walk

  module _ {M : Type 0} {g : Ghosts M} where
    -- the same of a join within a third set
    abbrev pub masked_left : (M → ℕ → Bool) → JoinMasked V W M g → List (ℕ × V × W)
    masked_left holds join = pairs (value_of join.first.now) (value_of join.second.now) (items_left (in_three holds) join.walk)

    abbrev pub masked_reads_of : JoinMasked V W M g → ℕ
    masked_reads_of join = words_read join.walk

    abbrev pub masked_reads_in_all : (M → ℕ → ℕ → ℕ) → JoinMasked V W M g → ℕ
    masked_reads_in_all word join = all_reads (three_word word) join.walk

    abbrev pub MaskedSteps : (M → ℕ → Bool) → (M → ℕ → ℕ → ℕ) → JoinMasked V W M g → Option (ℕ × Bor V × Bor W) → JoinMasked V W M g → Type 0
    MaskedSteps holds word old item new = YieldsFirstBy seen (masked_left holds) old item new × GoesOnReading (three_word word) old.walk new.walk

module _ {V : Type 0} where
  -- the keys that a walk over one column has still to give, each with its value
  abbrev pub entries_left : Iter V → List (ℕ × V)
  entries_left iter = entries (value_of iter.column.now) (items_left (λ set. has set.now) iter.walk)

  -- how many words of the mask it has read, and how many when it has ended
  abbrev pub iter_reads_of : Iter V → ℕ
  iter_reads_of iter = words_read iter.walk

  abbrev pub iter_reads_in_all : Iter V → ℕ
  iter_reads_in_all iter = all_reads (λ set. word_of set.now) iter.walk

  -- a step gives the first key that is left, with its value, and goes on reading
  abbrev pub IterSteps : Iter V → Option (ℕ × Bor V) → Iter V → Type 0
  IterSteps old item new = YieldsFirstBy entry_seen entries_left old item new × GoesOnReading (λ set. word_of set.now) old.walk new.walk
