-- Sets that take the items of an iterator, each of which is to be below the range of the set.
use Rattle.std.specs.Prelude.{◌≡◌, ℕ, ◌-◌, ◌^◌, ◌<◌, ◌≤◌, ◌==◌, ◌||◌, min, Bool, true, List, length, Option, Some, All, ◌++◌, codes}
use Rattle.std.specs.Fmt.{decimal}
use Rattle.std.specs.List.{list_any}
use Rattle.std.specs.Iterator.{Drains, YieldsThen}
use Rattle.hibitset_base.specs.declared.build.BuildError.{BuildError}
use Rattle.hibitset_base.specs.declared.build.BuildError.TheVariants.{OutOfRange, Memory}

-- The new set has exactly the old members and the numbers of the items, which are all in range.
pub record AddsItemsBelow {A : Type 0} (range : ℕ) (number : A → ℕ) (old new : ℕ → Bool) (items : List A) : Type 0 where
  pub in_range : All (λ x. number x < range) items
  pub members : (i : ℕ) → new i ≡ (old i || list_any (λ x. number x == i) items)

-- the place of an item after so many others, which stays at the greatest `usize`
abbrev pub place_after : ℕ → ℕ
place_after count = min count (2 ^ 64 - 1)

-- The error tells of this item, after so many others: it is not in range, or else there was no memory for it, which
-- only one that lacks room can need.
abbrev pub IsRefusalBelow : ℕ → (ℕ → Type 0) → BuildError → ℕ → ℕ → Type 0
IsRefusalBelow range needs_allocation (OutOfRange place index) count item = (place ≡ place_after count) × (index ≡ item) × (range ≤ item)
IsRefusalBelow range needs_allocation (Memory place) count item = (place ≡ place_after count) × (item < range) × needs_allocation item

-- a number lies apart from all members
abbrev pub LiesApart : (ℕ → ℕ → Type 0) → (ℕ → Bool) → ℕ → Type 0
LiesApart need_separate_room holds j = (i : ℕ) → holds i ≡ true → need_separate_room i j

-- what an error says
abbrev pub text_of : BuildError → List ℕ
text_of (OutOfRange place index) = codes "index " ++ decimal index ++ codes " at place " ++ decimal place ++ codes " is out of range"
text_of (Memory place) = codes "no memory for the index at place " ++ decimal place

-- U is what is iterated over, S its iterator and A an item, of which `number` reads the index.
module _ {U S A : Type 0} (range : ℕ) (becomes : U → S → Type 0) (steps : S → Option A → S → Type 0) (number : A → ℕ) (iter : U) where
  -- An item was refused with this error, after items that are all in range, and no item was drawn after it. An
  -- allocation can fail only for an item that lies apart from all before it.
  abbrev pub RefusesBelow : (ℕ → ℕ → Type 0) → BuildError → Type 0
  RefusesBelow need_separate_room error = (it : S) × (items : List A) × (refused : A) × (rest : S) × becomes iter it × YieldsThen steps it items (Some refused) rest
      × All (λ x. number x < range) items × IsRefusalBelow range (λ i. All (λ x. need_separate_room (number x) i) items) error (length items) (number refused)

  module _ (old new : ℕ → Bool) where
    -- the iterator came to its end, and all its items were added
    abbrev pub TakesAllBelow : Type 0
    TakesAllBelow = (it : S) × (items : List A) × becomes iter it × Drains steps it items × AddsItemsBelow range number old new items

    -- The items were added up to one that was refused with this error, and no item was drawn after it. An allocation
    -- can fail only for an item that lacks room then.
    abbrev pub StopsAtRefusedBelow : (ℕ → Type 0) → BuildError → Type 0
    StopsAtRefusedBelow needs_allocation error = (it : S) × (items : List A) × (refused : A) × (rest : S) × becomes iter it × YieldsThen steps it items (Some refused) rest
        × AddsItemsBelow range number old new items × IsRefusalBelow range needs_allocation error (length items) (number refused)
