-- How many bytes the words of a set and their tables take.
use Rattle.std.specs.Prelude.{ℕ, ◌+◌, ◌-◌, ◌*◌, ◌^◌, ◌==◌, not, length}
use Rattle.hibitset_base.specs.Members.{members_below}
use Rattle.hibitset_sparse.specs.declared.chunk.Chunk.{Chunk}

-- how many words of a layer are nonzero
abbrev pub nonzero_words : (ℕ → ℕ → ℕ) → ℕ → ℕ
nonzero_words word l = length (members_below (64 ^ (4 - l)) (λ p. not (word l p == 0)))

-- the bytes of a set with these words: 8 for each that is nonzero of layer 0, 16 of layer 1, 56 of layer 2, and 16 of
-- layer 3
abbrev pub memory_of : (ℕ → ℕ → ℕ) → ℕ
memory_of word = 8 * nonzero_words word 0 + 16 * nonzero_words word 1 + 56 * nonzero_words word 2 + 16 * nonzero_words word 3

-- the bytes of the words of a chunk and of their groups
abbrev pub bytes_in_chunk : Chunk → ℕ
bytes_in_chunk chunk = 8 * length chunk.words.items.items + 16 * length chunk.words.groups.items.items
