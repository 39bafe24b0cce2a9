-- What a contract sees of an `AtomicBitSet`.
use Rattle.std.specs.Prelude.{◌≡◌, ◌≢◌, ℕ, ◌-◌, ◌/◌, ◌%◌, ◌*◌, ◌+◌, Bool, true, List, get_or}
use Rattle.std.proofs.Common.{arith}
use Rattle.hibitset_base.specs.Decisions.{no_bit}
use Rattle.hibitset_base.specs.Sets.{IsLawful}
use Rattle.hibitset_atomic.specs.Blocks.{block_word, IsUnmade, HasRoom}
use Rattle.hibitset_base.specs.Members.{members_below}
use Rattle.hibitset_base.specs.declared.util.TheConstants.{LAYERS}
use Rattle.hibitset_atomic.specs.declared.atomic.TheConstants.{ATOMIC_MAX_EID}
use Rattle.hibitset_atomic.specs.declared.layers.TheConstants.{ATOMIC_LAYERS}
use Rattle.hibitset_base.specs.Words.{holds_at}
use Rattle.hibitset_atomic.specs.Layers.{layer_word, single_word}
use Rattle.hibitset_atomic.specs.TopLayer.{with_top_layer}
use Rattle.hibitset_atomic.specs.TopLayerLemmas.{topped_lawful}
use Rattle.hibitset_atomic.specs.declared.atomic.AtomicBitSet.{AtomicBitSet}

-- the word of a layer at a position, of the four layers that the set keeps
unfoldable pub word_of : AtomicBitSet → ℕ → ℕ → ℕ
word_of set = layer_word set.layers

-- the same with the layer on top of them
abbrev pub topped_word : AtomicBitSet → ℕ → ℕ → ℕ
topped_word set = with_top_layer (ATOMIC_LAYERS - 1) (word_of set)

-- the set has the number as a member
unfoldable pub has : AtomicBitSet → ℕ → Bool
has set = holds_at (word_of set)

-- the words are those of a set that has these members
pub topped_is_lawful : (set : AtomicBitSet) → IsLawful LAYERS (has set) (topped_word set)
unfolding has word_of
topped_is_lawful set = topped_lawful (ATOMIC_LAYERS - 1) (word_of set) set.summed (single_word set.layers)

-- the members, ascending
abbrev pub members_of : AtomicBitSet → List ℕ
members_of set = members_below ATOMIC_MAX_EID (has set)

-- some member lies in the same 4,096 indices
abbrev pub SharesBlockWithMember : AtomicBitSet → ℕ → Type 0
SharesBlockWithMember set i = (j : ℕ) × (j / 4096 ≡ i / 4096) × (has set j ≡ true)

-- no member lies in the same 4,096 indices
abbrev pub SharesBlockWithNone : AtomicBitSet → ℕ → Type 0
SharesBlockWithNone set i = (j : ℕ) → has set j ≡ true → j / 4096 ≢ i / 4096

-- The block of 4,096 indices that has the number is not made, so that an addition there needs memory. Where some member
-- is near, it is made.
unfoldable pub NeedsAllocation : AtomicBitSet → ℕ → Type 0
NeedsAllocation set i = IsUnmade set.layers.layer0 (i / 4096)

-- There is room for all blocks, so that no addition needs memory.
unfoldable pub AllBlocksReserved : AtomicBitSet → Type 0
AllBlocksReserved set = HasRoom set.layers.layer0

-- The same blocks are made as before, and room for all stays.
pub record KeepsBlocks (old new : AtomicBitSet) : Type 0 where
  pub frees_none : (i : ℕ) → NeedsAllocation new i → NeedsAllocation old i
  pub makes_no_more : (i : ℕ) → NeedsAllocation old i → NeedsAllocation new i
  pub all_reserved : AllBlocksReserved old → AllBlocksReserved new

pub keeps_own_blocks : (set : AtomicBitSet) → KeepsBlocks set set
keeps_own_blocks set = record { frees_none = λ i lacks. lacks; makes_no_more = λ i lacks. lacks; all_reserved = λ all. all }

pub keeps_blocks_twice : (a b c : AtomicBitSet) → KeepsBlocks a b → KeepsBlocks b c → KeepsBlocks a c
keeps_blocks_twice a b c first second = record {
  frees_none = λ i lacks. first.frees_none i (second.frees_none i lacks);
  makes_no_more = λ i lacks. second.makes_no_more i (first.makes_no_more i lacks);
  all_reserved = λ all. second.all_reserved (first.all_reserved all);
}

pub block_apart : (set : AtomicBitSet) (i j : ℕ) → has set i ≡ true → NeedsAllocation set j → i / 4096 ≢ j / 4096
unfolding has word_of NeedsAllocation
block_apart set i j on lacks same =
    let blocks = set.layers.layer0 in
    let at : i / 64 / 64 ≡ j / 4096 = omega (arith, same) in
    let first : 64 * get_or blocks.places.items (i / 64 / 64) 0 + i / 64 % 64 ≡ i / 64 % 64 = rw at (let h : get_or blocks.places.items (j / 4096) 0 ≡ 0 = lacks in omega (arith, h)) in
    let none : block_word blocks (i / 64) ≡ 0 = rw first (blocks.placed.blank (i / 64 % 64) (omega arith)) in
    (let h = no_bit (block_word blocks (i / 64)) (i % 64) none on in omega (arith, h))
