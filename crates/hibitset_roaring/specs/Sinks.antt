-- What containers are read into.
use Rattle.std.specs.Prelude.{◌≡◌, ℕ, ◌/◌, ◌%◌, Bool, ◌==◌, ◌&&◌, ◌||◌, List}
use Rattle.hibitset_roaring.specs.Format.{key_of, in_container}

-- the members of container k were added
abbrev pub AddsContainer : List ℕ → ℕ → (ℕ → Bool) → (ℕ → Bool) → Type 0
AddsContainer bytes k old new = (i : ℕ) → new i ≡ (old i || ((i / 65536 == key_of bytes k) && in_container bytes k (i % 65536)))
