-- What a contract sees of an atomic set that C keeps.
use Rattle.std.specs.Prelude.{◌≡◌, ℕ, ◌/◌, Bool, true, false, Option, None, Some}
use Rattle.hibitset_atomic.specs.AtomicBitSet.{has as atomic_has, topped_word, NeedsAllocation as LacksItsBlock, AllBlocksReserved as HasRoomForAll}
use Rattle.hibitset_c.specs.declared.atomic_set.AtomicSet.{AtomicSet}
use Rattle.hibitset_c.specs.declared.set_or_seat.SetOrSeat.{SetOrSeat}
use Rattle.hibitset_c.specs.declared.set_or_seat.SetOrSeat.TheVariants.{Alone, Seated, Sparse, Nothing}

abbrev pub has_in : Option SetOrSeat → ℕ → Bool
has_in None i = false
has_in (Some (Alone set)) i = atomic_has set i
has_in (Some (Seated m)) i = false
has_in (Some (Sparse set)) i = false
has_in (Some Nothing) i = false

-- the set has the number
abbrev pub has : AtomicSet → ℕ → Bool
has set = has_in set.handle.content

-- some member lies in the same 4,096 indices
abbrev pub SharesBlockWithMember : AtomicSet → ℕ → Type 0
SharesBlockWithMember set i = (j : ℕ) × (j / 4096 ≡ i / 4096) × (has set j ≡ true)

abbrev pub word_in : Option SetOrSeat → ℕ → ℕ → ℕ
word_in None l p = 0
word_in (Some (Alone set)) l p = topped_word set l p
word_in (Some (Seated m)) l p = 0
word_in (Some (Sparse set)) l p = 0
word_in (Some Nothing) l p = 0

-- the word of a layer at a position
abbrev pub word_of : AtomicSet → ℕ → ℕ → ℕ
word_of set = word_in set.handle.content

abbrev pub LacksBlockIn : Option SetOrSeat → ℕ → Type 0
LacksBlockIn None i = Unit {0}
LacksBlockIn (Some (Alone set)) i = LacksItsBlock set i
LacksBlockIn (Some (Seated m)) i = Unit {0}
LacksBlockIn (Some (Sparse set)) i = Unit {0}
LacksBlockIn (Some Nothing) i = Unit {0}

-- The block of 4,096 indices that has the number is not made, so that an addition there needs memory.
abbrev pub NeedsAllocation : AtomicSet → ℕ → Type 0
NeedsAllocation set = LacksBlockIn set.handle.content

abbrev pub HasAllRoomIn : Option SetOrSeat → Type 0
HasAllRoomIn None = ⊥
HasAllRoomIn (Some (Alone set)) = HasRoomForAll set
HasAllRoomIn (Some (Seated m)) = ⊥
HasAllRoomIn (Some (Sparse set)) = ⊥
HasAllRoomIn (Some Nothing) = ⊥

-- No addition needs memory.
abbrev pub AllBlocksReserved : AtomicSet → Type 0
AllBlocksReserved set = HasAllRoomIn set.handle.content

-- there is no set, and so no block of memory
abbrev pub OwnsNoMemory : AtomicSet → Type 0
OwnsNoMemory set = set.handle.content ≡ None

-- The set is as it was.
abbrev pub IsSame : AtomicSet → AtomicSet → Type 0
IsSame old new = new.handle.content ≡ old.handle.content
