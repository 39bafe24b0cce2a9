-- What is left of the values of a table that are changed or taken out in place.
use Rattle.std.specs.Prelude.{◌≡◌, ℕ, ◌+◌, ◌*◌, ◌^◌, ◌<◌, ◌≤◌, ◌&&◌, Bool, false, List, length, Option, Some, None, slice_get}
use Rattle.std.specs.Int.RustNames.{count_ones}
use Rattle.hibitset_sparse.specs.Chunk.{has_in, or_zero}
use Rattle.hibitset_sparse.specs.Parts.{item_from}
use Rattle.hibitset_sparse.specs.Rank.{bit_is_set}
use Rattle.hibitset_sparse.specs.declared.chunk.Chunk.{Chunk}
use Rattle.hibitset_sparse.specs.declared.chunk.TheConstants.{INDICES_PER_CHUNK}

module _ {T : Type 0} where
  -- nothing is left of nothing, and of a value what a relation says
  abbrev pub LeavesOf : (T → Option T → Type 0) → Option T → Option T → Type 0
  LeavesOf leaves None left = left ≡ None
  LeavesOf leaves (Some x) left = leaves x left

  -- Of the values of the bits of a word, which lie from `start` on, those of the bits `kept` are left, from `to` on.
  pub record IsRetained (leaves : ℕ → T → Option T → Type 0) (word start to kept : ℕ) (old new : List T) : Type 0 where
    pub left : (b : ℕ) → b < 64 → LeavesOf (leaves b) (item_from old start word b) (item_from new to kept b)
    pub fewer : count_ones kept ≤ count_ones word
    pub before : (k : ℕ) → k < to → slice_get new k ≡ slice_get old k
    pub behind : (k : ℕ) → start + count_ones word ≤ k → slice_get new k ≡ slice_get old k
    pub length : length new ≡ length old

-- What is left of the word at position p where the indices stay that are in a set: a word that is 0 is taken out.
pub record IsKeptWord (holds : ℕ → Bool) (p word : ℕ) (left : Option ℕ) : Type 0 where
  pub bits : (b : ℕ) → b < 64 → bit_is_set (or_zero left) b ≡ (bit_is_set word b && holds (64 * p + b))
  pub nonzero : (w : ℕ) → left ≡ Some w → (0 < w) × (w < 2 ^ 64)

-- What is left of a word that is not 0.
abbrev pub IsKeptOfNonzero : (ℕ → Bool) → ℕ → ℕ → Option ℕ → Type 0
IsKeptOfNonzero holds p word left = 0 < word → word < 2 ^ 64 → IsKeptWord holds p word left

-- What is left of chunk c where the indices stay that are in a set: an empty one is taken out.
pub record IsKeptChunk (holds : ℕ → Bool) (c : ℕ) (chunk : Chunk) (left : Option Chunk) : Type 0 where
  pub members : (x : Chunk) (i : ℕ) → left ≡ Some x → i < INDICES_PER_CHUNK → has_in x i ≡ (has_in chunk i && holds (INDICES_PER_CHUNK * c + i))
  pub none : (i : ℕ) → left ≡ None → i < INDICES_PER_CHUNK → (has_in chunk i && holds (INDICES_PER_CHUNK * c + i)) ≡ false
  pub full : (x : Chunk) → left ≡ Some x → 0 < x.words.groups.word
