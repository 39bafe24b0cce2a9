-- Why a range was not taken into a set.
use Rattle.std.specs.Prelude.{◌≡◌, ◌⊎◌, ℕ, ◌+◌, ◌%◌, ◌<◌, ◌≤◌}
use Rattle.hibitset.specs.Prelude.{BuildError, OutOfRange, Memory}

-- Of the indices from a start on, the one at the place is out of range, or it lies in range and there was no memory for
-- it.
abbrev pub IsRefusalFrom : ℕ → ℕ → BuildError → Type 0
IsRefusalFrom range start (OutOfRange place index) = (index ≡ start + place) × (range ≤ index)
IsRefusalFrom range start (Memory place) = start + place < range

-- if an allocation failed, the index is the first of all, or the first of a word
abbrev pub BeginsWord : ℕ → BuildError → Type 0
BeginsWord start (OutOfRange place index) = Unit {0}
BeginsWord start (Memory place) = (place ≡ 0) ⊎ ((start + place) % 64 ≡ 0)
