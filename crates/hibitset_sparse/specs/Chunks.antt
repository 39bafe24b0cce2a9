-- The words of the chunks of a set: five layers.
use Rattle.std.specs.Prelude.{◌≡◌, ℕ, zero, suc, ◌/◌, ◌%◌, ◌<◌, ◌==◌, Option, Some, None, if◌then◌else◌}
use Rattle.hibitset_sparse.specs.Table.{value_at, group_word}
use Rattle.hibitset_sparse.specs.Chunk.{chunk_word}
use Rattle.hibitset_sparse.specs.declared.chunk.Chunk.{Chunk}
use Rattle.hibitset_sparse.specs.declared.table.Table.{Table}
use Rattle.hibitset_sparse.specs.declared.table.TheConstants.{PLACES_PER_TABLE}

-- no chunk is empty that is there
abbrev pub AreFull : Table Chunk → Type 0
AreFull chunks = (c : ℕ) (chunk : Chunk) → c < PLACES_PER_TABLE → value_at chunks c ≡ Some chunk → 0 < chunk.words.groups.word

-- the word of a layer of a chunk, 0 if there is none
abbrev pub word_under : Option Chunk → ℕ → ℕ → ℕ
word_under None l p = 0
word_under (Some chunk) l p = chunk_word chunk l p

-- the word of a layer at a position
unfoldable pub word_in : Table Chunk → ℕ → ℕ → ℕ
word_in chunks zero p = word_under (value_at chunks (p / 4096)) 0 (p % 4096)
word_in chunks (suc zero) p = word_under (value_at chunks (p / 64)) 1 (p % 64)
word_in chunks (suc (suc zero)) p = word_under (value_at chunks p) 2 0
word_in chunks (suc (suc (suc zero))) p = group_word chunks p
word_in chunks (suc (suc (suc (suc l)))) p = if p == 0 then chunks.groups.word else 0
