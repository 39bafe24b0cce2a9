-- `AtomicBitSet`s that take the items of an iterator.
use Rattle.std.specs.Prelude.{◌≢◌, ℕ, ◌/◌, Bool, Option}
use Rattle.hibitset_base.specs.Extension.{RefusesBelow, TakesAllBelow, StopsAtRefusedBelow}
use Rattle.hibitset_base.specs.declared.build.BuildError.{BuildError}
use Rattle.hibitset_atomic.specs.declared.atomic.TheConstants.{ATOMIC_MAX_EID}

-- U is what is iterated over, S its iterator and A an item, of which `number` reads the index.
module _ {U S A : Type 0} (becomes : U → S → Type 0) (steps : S → Option A → S → Type 0) (number : A → ℕ) (iter : U) where
  -- An item was refused with this error, after items that are all in range, and no item was drawn after it. An
  -- allocation can fail only for an item with none before it in the same 4,096 indices.
  abbrev pub Refuses : BuildError → Type 0
  Refuses = RefusesBelow ATOMIC_MAX_EID becomes steps number iter (λ i j. i / 4096 ≢ j / 4096)

  module _ (old new : ℕ → Bool) where
    -- the iterator came to its end, and all its items were added
    abbrev pub TakesAll : Type 0
    TakesAll = TakesAllBelow ATOMIC_MAX_EID becomes steps number iter old new

    -- The items were added up to one that was refused with this error, and no item was drawn after it. An allocation
    -- can fail only for an item that lacks its block then.
    abbrev pub StopsAtRefused : (ℕ → Type 0) → BuildError → Type 0
    StopsAtRefused lacks_block = StopsAtRefusedBelow ATOMIC_MAX_EID becomes steps number iter old new lacks_block
