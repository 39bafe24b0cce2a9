-- Words of layer 0 whose bits are added to a set.
use Rattle.std.specs.Prelude.{◌≡◌, ℕ, ◌-◌, ◌/◌, ◌%◌, Bool, ◌==◌, ◌&&◌, ◌||◌, nat_le, List, get_or}
use Rattle.hibitset_sparse.specs.Rank.{bit_is_set}

-- the number shares its word with an index, and its bit of these is set
abbrev pub is_in_word : ℕ → ℕ → ℕ → Bool
is_in_word index bits i = (i / 64 == index / 64) && bit_is_set bits (i % 64)

-- the bit of the number is set in words that lie from a position of layer 0 on
abbrev pub is_in_words : ℕ → List ℕ → ℕ → Bool
is_in_words first words i = nat_le first (i / 64) && bit_is_set (get_or words (i / 64 - first) 0) (i % 64)

-- the numbers whose bits are set in such words were added
abbrev pub AddsWords : ℕ → List ℕ → (ℕ → Bool) → (ℕ → Bool) → Type 0
AddsWords first words old new = (i : ℕ) → new i ≡ (old i || is_in_words first words i)
