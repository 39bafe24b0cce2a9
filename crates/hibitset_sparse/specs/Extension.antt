-- Sparse sets that take the items of an iterator.
use Rattle.std.specs.Prelude.{◌≡◌, ◌≢◌, ℕ, ◌/◌, ◌%◌, Bool, true, Option}
use Rattle.std.proofs.Common.{◌∙◌, ap, arith}
use Rattle.hibitset_base.specs.Decisions.{no_bit}
use Rattle.hibitset_base.specs.Extension.{RefusesBelow, TakesAllBelow, StopsAtRefusedBelow}
use Rattle.hibitset_base.specs.declared.build.BuildError.{BuildError}
use Rattle.hibitset_base.specs.declared.util.TheConstants.{MAX_EID}
use Rattle.hibitset_sparse.specs.SparseBitSet.{has, word_of}
use Rattle.hibitset_sparse.specs.declared.set.SparseBitSet.{SparseBitSet}

-- a number whose word is 0 shares it with no member
pub member_apart : (set : SparseBitSet) (i j : ℕ) → has set i ≡ true → word_of set 0 (j / 64) ≡ 0 → i / 64 ≢ j / 64
unfolding has
member_apart set i j on none same =
    let h = no_bit (word_of set 0 (i / 64)) (i % 64) (ap (word_of set 0) same ∙ none) on in
    omega (arith, h)

-- U is what is iterated over, S its iterator and A an item, of which `number` reads the index.
module _ {U S A : Type 0} (becomes : U → S → Type 0) (steps : S → Option A → S → Type 0) (number : A → ℕ) (iter : U) where
  -- An item was refused with this error, after items that are all in range, and no item was drawn after it. An
  -- allocation can fail only for an item that shares its word with none before it.
  abbrev pub Refuses : BuildError → Type 0
  Refuses = RefusesBelow MAX_EID becomes steps number iter (λ i j. i / 64 ≢ j / 64)

  module _ (old new : ℕ → Bool) where
    -- the iterator came to its end, and all its items were added
    abbrev pub TakesAll : Type 0
    TakesAll = TakesAllBelow MAX_EID becomes steps number iter old new

    -- The items were added up to one that was refused with this error, and no item was drawn after it. An allocation
    -- can fail only for an item whose word is 0 then.
    abbrev pub StopsAtRefused : (ℕ → ℕ → ℕ) → BuildError → Type 0
    StopsAtRefused word = StopsAtRefusedBelow MAX_EID becomes steps number iter old new (λ i. word 0 (i / 64) ≡ 0)
