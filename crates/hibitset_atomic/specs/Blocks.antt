-- What a contract sees of `Blocks`.
use Rattle.std.specs.Prelude.{◌≡◌, ℕ, ◌*◌, ◌/◌, ◌<◌, ◌≤◌, get_or, vec_capacity}
use Rattle.hibitset_atomic.specs.BlockTable.{placed_word}
use Rattle.hibitset_atomic.specs.declared.blocks.Blocks.{Blocks}

-- the word at a position
abbrev pub block_word : Blocks → ℕ → ℕ
block_word blocks = placed_word blocks.places.items blocks.words.items

-- the block of a position is made
abbrev pub IsMade : Blocks → ℕ → Type 0
IsMade blocks p = 0 < get_or blocks.places.items (p / 64) 0

-- block k is not made
abbrev pub IsUnmade : Blocks → ℕ → Type 0
IsUnmade blocks k = get_or blocks.places.items k 0 ≡ 0

-- no block that is made needs memory any more
abbrev pub HasRoom : Blocks → Type 0
HasRoom blocks = 64 * 4097 ≤ vec_capacity blocks.words
