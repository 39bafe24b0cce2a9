-- What a contract sees of a sparse set that C keeps.
use Rattle.std.specs.Prelude.{◌≡◌, ℕ, ◌/◌, Bool, true, false, Option, None, Some}
use Rattle.hibitset_sparse.specs.SparseBitSet.{has as sparse_has, word_of as sparse_word}
use Rattle.hibitset_c.specs.declared.set_or_seat.SetOrSeat.{SetOrSeat}
use Rattle.hibitset_c.specs.declared.set_or_seat.SetOrSeat.TheVariants.{Alone, Seated, Sparse, Nothing}
use Rattle.hibitset_c.specs.declared.sparse_set.SparseSet.{SparseSet}

abbrev pub has_in : Option SetOrSeat → ℕ → Bool
has_in None i = false
has_in (Some (Alone set)) i = false
has_in (Some (Seated m)) i = false
has_in (Some (Sparse set)) i = sparse_has set i
has_in (Some Nothing) i = false

-- the set has the number
abbrev pub has : SparseSet → ℕ → Bool
has set = has_in set.handle.content

abbrev pub word_in : Option SetOrSeat → ℕ → ℕ → ℕ
word_in None l p = 0
word_in (Some (Alone set)) l p = 0
word_in (Some (Seated m)) l p = 0
word_in (Some (Sparse set)) l p = sparse_word set l p
word_in (Some Nothing) l p = 0

-- the word of a layer at a position
abbrev pub word_of : SparseSet → ℕ → ℕ → ℕ
word_of set = word_in set.handle.content

-- some member lies in the same 64 indices
abbrev pub SharesWordWithMember : SparseSet → ℕ → Type 0
SharesWordWithMember set i = (j : ℕ) × (j / 64 ≡ i / 64) × (has set j ≡ true)

-- there is no set, and so no block of memory
abbrev pub OwnsNoMemory : SparseSet → Type 0
OwnsNoMemory set = set.handle.content ≡ None

-- The set is as it was.
abbrev pub IsSame : SparseSet → SparseSet → Type 0
IsSame old new = new.handle.content ≡ old.handle.content
