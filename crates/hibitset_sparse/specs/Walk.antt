-- What a contract sees of a walk over a table, and of one over a set.
use Rattle.std.specs.Prelude.{ℕ, ◌+◌, ◌*◌, ◌/◌, ◌%◌, Bool, List, ◌++◌, length}
use Rattle.std.specs.List.{flat_map, zip}
use Rattle.hibitset_base.specs.Places.{bits_from}
use Rattle.hibitset_sparse.specs.Chunk.{or_zero}
use Rattle.hibitset_sparse.specs.Rank.{bit_is_set}
use Rattle.hibitset_sparse.specs.Table.{value_at}
use Rattle.hibitset_sparse.specs.declared.group.Group.{Group}
use Rattle.hibitset_sparse.specs.declared.table.Table.{Table}
use Rattle.hibitset_sparse.specs.declared.chunk.Chunk.{Chunk}
use Rattle.hibitset_sparse.specs.declared.chunk.TheConstants.{INDICES_PER_CHUNK}
use Rattle.hibitset_sparse.specs.declared.table_iter.TableIter.{TableIter}
use Rattle.hibitset_sparse.specs.declared.walk.WordIter.{WordIter}
use Rattle.hibitset_sparse.specs.declared.walk.SparseIter.{SparseIter}

-- the places of groups with these numbers
abbrev pub places_of_groups : List ℕ → List Group → List ℕ
places_of_groups numbers groups = flat_map (λ (e : ℕ × Group). bits_from (64 * e.0) (e.1).word) (zip numbers groups)

module _ {T : Type 0} where
  -- the places of a table that have a value, ascending, each with its value
  abbrev pub entries_of : Table T → List (ℕ × T)
  entries_of table = zip (places_of_groups (bits_from 0 table.groups.word) table.groups.items.items) table.items.items

  -- the places that a walk over a table has left
  abbrev pub places_left : TableIter T → List ℕ
  places_left walk = bits_from walk.first walk.word ++ places_of_groups (bits_from 0 walk.root) walk.groups.now

  -- the same, each with its value
  unfoldable pub entries_left : TableIter T → List (ℕ × T)
  entries_left walk = zip (places_left walk) walk.items.now

-- the words of a chunk have an index
abbrev pub has_in_words : Table ℕ → ℕ → Bool
has_in_words words i = bit_is_set (or_zero (value_at words (i / 64))) (i % 64)

-- the members in words at these places of a chunk whose first index is `base`
abbrev pub in_words : ℕ → List (ℕ × ℕ) → List ℕ
in_words base = flat_map (λ (e : ℕ × ℕ). bits_from (base + 64 * e.0) e.1)

-- the members in chunks at these places
abbrev pub in_chunks : List (ℕ × Chunk) → List ℕ
in_chunks = flat_map (λ (e : ℕ × Chunk). in_words (INDICES_PER_CHUNK * e.0) (entries_of (e.1).words))

-- the members in a table of chunks, ascending
unfoldable pub members_of : Table Chunk → List ℕ
members_of chunks = in_chunks (entries_of chunks)

-- the members in the words that a walk has left
unfoldable pub members_left : WordIter → List ℕ
members_left walk = in_words walk.base (entries_left walk.words) ++ in_chunks (entries_left walk.chunks)

-- how many words a walk has left
unfoldable pub words_ahead : WordIter → ℕ
words_ahead walk = length (entries_left walk.words ++ flat_map (λ (e : ℕ × Chunk). entries_of (e.1).words) (entries_left walk.chunks))

-- the members that a walk has left to give, ascending
unfoldable pub items_left : SparseIter → List ℕ
items_left walk = bits_from walk.first walk.word ++ members_left walk.words
