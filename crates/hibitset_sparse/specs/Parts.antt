-- The parts of a table of words while it is made, group by group from the lowest up.
use Rattle.std.specs.Prelude.{◌≡◌, ℕ, ◌+◌, ◌^◌, ◌<◌, ◌≤◌, List, length, Option, Some, None, slice_get}
use Rattle.std.specs.Int.RustNames.{count_ones}
use Rattle.hibitset_sparse.specs.Chunk.{or_zero}
use Rattle.hibitset_sparse.specs.Layout.{AreLaidOut, value_of_place}
use Rattle.hibitset_sparse.specs.Rank.{value_from}
use Rattle.hibitset_sparse.specs.declared.group.Group.{Group}

-- the value of a bit, where those of the bits that are set lie in a list from `start` on
abbrev pub item_from : {T : Type 0} → List T → ℕ → ℕ → ℕ → Option T
item_from items start = value_from (λ k. slice_get items (start + k))

-- A list has one word for each of some bits, from `start` to its end. These words are nonzero, and those of a set.
pub record AreWordsFrom (start bits : ℕ) (items : List ℕ) (word : ℕ → ℕ) : Type 0 where
  pub counted : length items ≡ start + count_ones bits
  pub nonzero : (b w : ℕ) → b < 64 → item_from items start bits b ≡ Some w → (0 < w) × (w < 2 ^ 64)
  pub words : (b : ℕ) → b < 64 → or_zero (item_from items start bits b) ≡ word b

-- a list begins with another
abbrev pub BeginsWith : List ℕ → List ℕ → Type 0
BeginsWith old new = (k : ℕ) → k < length old → slice_get new k ≡ slice_get old k

-- Groups and words of a table, of which none lies in group q or after it.
pub record IsMadeUpTo (q : ℕ) (group : ℕ → Option Group) (items : List ℕ) : Type 0 where
  pub laid_out : AreLaidOut group (length items)
  pub none : (p : ℕ) → q ≤ p → p < 64 → group p ≡ None
  pub nonzero : (p w : ℕ) → p < 4096 → value_of_place group items p ≡ Some w → (0 < w) × (w < 2 ^ 64)
