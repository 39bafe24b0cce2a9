-- Chunks made of a set's words, and the members of a set once they have taken the place of its own.
use Rattle.std.specs.Prelude.{◌≡◌, ◌≢◌, ℕ, ◌+◌, ◌*◌, ◌/◌, ◌%◌, ◌<◌, ◌==◌, if◌then◌else◌, Bool, false, Option, Some, None}
use Rattle.hibitset_sparse.specs.Chunk.{chunk_word, has_in}
use Rattle.hibitset_sparse.specs.Table.{HasValue, group_word, value_at}
use Rattle.hibitset_sparse.specs.declared.chunk.Chunk.{Chunk}
use Rattle.hibitset_sparse.specs.declared.chunk.TheConstants.{INDICES_PER_CHUNK}
use Rattle.hibitset_sparse.specs.declared.table.Table.{Table}
use Rattle.hibitset_sparse.specs.declared.table.TheConstants.{PLACES_PER_TABLE}

-- the chunk has what a set has of the indices of chunk c
abbrev pub IsChunkOf : (ℕ → Bool) → ℕ → Chunk → Type 0
IsChunkOf holds c chunk = (i : ℕ) → i < INDICES_PER_CHUNK → has_in chunk i ≡ holds (INDICES_PER_CHUNK * c + i)

-- a set has none of the indices of chunk c
abbrev pub HasNoneIn : (ℕ → Bool) → ℕ → Type 0
HasNoneIn holds c = (i : ℕ) → i < INDICES_PER_CHUNK → holds (INDICES_PER_CHUNK * c + i) ≡ false

-- Each chunk has what the first set has of its indices, and where none is the second has none.
pub record AreChunksOf (holds touched : ℕ → Bool) (chunks : Table Chunk) : Type 0 where
  pub is : (c : ℕ) (chunk : Chunk) → c < PLACES_PER_TABLE → value_at chunks c ≡ Some chunk → IsChunkOf holds c chunk
  pub all : (c : ℕ) → c < PLACES_PER_TABLE → value_at chunks c ≡ None → HasNoneIn touched c

-- whether an index is there, by its chunk if there is one, and as before if not
abbrev pub has_in_or : Option Chunk → ℕ → Bool → Bool
has_in_or None i before = before
has_in_or (Some chunk) i before = has_in chunk (i % INDICES_PER_CHUNK)

-- The chunks can take the place of a set's own: each that is not empty takes the place of one.
abbrev pub CanTakePlace : Table Chunk → Table Chunk → Type 0
CanTakePlace own chunks = (c : ℕ) (chunk : Chunk) → c < PLACES_PER_TABLE → value_at chunks c ≡ Some chunk → 0 < chunk_word chunk 2 0 → HasValue own c

-- what is there of two chunks: the second, unless it is empty, and the first where there is no second
abbrev pub later : Option Chunk → Option Chunk → Option Chunk
later first None = first
later first (Some chunk) = if chunk.words.groups.word == 0 then None else Some chunk

-- each place outside group q has the same in both tables
abbrev pub IsSameBeside : ℕ → Table Chunk → Table Chunk → Type 0
IsSameBeside q old new = (c : ℕ) → c < PLACES_PER_TABLE → c / 64 ≢ q → value_at new c ≡ value_at old c

-- both tables have the same places in each group
abbrev pub HaveSameWords : Table Chunk → Table Chunk → Type 0
HaveSameWords old new = (q : ℕ) → group_word new q ≡ group_word old q
