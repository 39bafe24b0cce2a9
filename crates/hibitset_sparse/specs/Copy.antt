-- Chunks with the same words, in the same places.
use Rattle.std.specs.Prelude.{◌≡◌}
use Rattle.std.specs.List.{AllZip}
use Rattle.hibitset_sparse.specs.Table.{IsSameTable}
use Rattle.hibitset_sparse.specs.declared.chunk.Chunk.{Chunk}
use Rattle.hibitset_sparse.specs.declared.table.Table.{Table}

-- both chunks have the same words
abbrev pub IsSameChunk : Chunk → Chunk → Type 0
IsSameChunk old new = IsSameTable old.words new.words

-- Both tables have chunks in the same places, and these have the same words.
pub record HaveSameChunks (old new : Table Chunk) : Type 0 where
  pub root : new.groups.word ≡ old.groups.word
  pub groups : new.groups.items.items ≡ old.groups.items.items
  pub items : AllZip IsSameChunk old.items.items new.items.items
