-- Sets that take the indices of a slice, and why one was refused.
use Rattle.std.specs.Prelude.{◌≡◌, ◌⊎◌, ◌↔◌, ℕ, ◌<◌, ◌≤◌, Bool, true, List, slice_index, Contains}
use Rattle.hibitset_base.specs.declared.build.BuildError.{BuildError}
use Rattle.hibitset_base.specs.declared.build.BuildError.TheVariants.{OutOfRange, Memory}

-- the members are the old ones and the indices of the list
abbrev pub AddsList : (ℕ → Bool) → (ℕ → Bool) → List ℕ → Type 0
AddsList old new list = (i : ℕ) → (new i ≡ true) ↔ ((old i ≡ true) ⊎ Contains list i)

-- the place of the index that was refused
abbrev pub place_of : BuildError → ℕ
place_of (OutOfRange place index) = place
place_of (Memory place) = place

-- the indices before a place lie in range
abbrev pub InRangeBefore : ℕ → List ℕ → ℕ → Type 0
InRangeBefore range list place = (k : ℕ) → k < place → slice_index list k < range

-- The index at the place is out of range, or it lies in range and there was no memory for it.
abbrev pub IsRefusalIn : ℕ → List ℕ → BuildError → Type 0
IsRefusalIn range list (OutOfRange place index) = (index ≡ slice_index list place) × (range ≤ index)
IsRefusalIn range list (Memory place) = slice_index list place < range

-- if an allocation failed, the set has no room for the index
abbrev pub LacksRoom : (ℕ → Type 0) → List ℕ → BuildError → Type 0
LacksRoom lacks list (OutOfRange place index) = Unit {0}
LacksRoom lacks list (Memory place) = lacks (slice_index list place)

-- if an allocation failed, the index lies apart from each before it
abbrev pub LiesApartIn : (ℕ → ℕ → Type 0) → List ℕ → BuildError → Type 0
LiesApartIn apart list (OutOfRange place index) = Unit {0}
LiesApartIn apart list (Memory place) = (k : ℕ) → k < place → apart (slice_index list k) (slice_index list place)
