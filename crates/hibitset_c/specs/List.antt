-- Indices of a list that are added in order, until one is refused; and a list whose indices are removed.
use Rattle.std.specs.Prelude.{◌≡◌, ◌↔◌, ◌⊎◌, ℕ, ◌<◌, Bool, true, List, Contains, length, slice_index, take}

-- the new set has exactly the old members and those of the first `count` indices
abbrev pub AddsFirst : List ℕ → ℕ → (ℕ → Bool) → (ℕ → Bool) → Type 0
AddsFirst list count old new = (i : ℕ) → (new i ≡ true) ↔ ((old i ≡ true) ⊎ Contains (take count list) i)

-- so many of the indices were added, and the next one, which there is, is such
abbrev pub StopsAt : List ℕ → ℕ → (ℕ → Type 0) → Type 0
StopsAt list count Refused = (count < length list) × Refused (slice_index list count)

-- the new set has exactly the old members that the list lacks
abbrev pub RemovesAll : List ℕ → (ℕ → Bool) → (ℕ → Bool) → Type 0
RemovesAll list old new = (i : ℕ) → (new i ≡ true) ↔ ((old i ≡ true) × ¬ Contains list i)
