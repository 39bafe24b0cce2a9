-- What a contract sees of additions and walks that take turns.
use Rattle.std.specs.Prelude.{◌≡◌, ◌⊎◌, ℕ, ◌/◌, Bool, true, List, [], ◌∷◌, Option, Some, None}
use Rattle.hibitset_atomic.specs.declared.steps.state.World.{World}
use Rattle.hibitset_base.specs.Places.{Place}
use Rattle.hibitset_atomic.specs.History.{Walk, is_there}
use Rattle.hibitset_atomic.specs.HistoryFacts.{is_finished}
use Rattle.hibitset_atomic.specs.Worlds.{old_of, past_of, walk_in}

-- the index is in the set: it was there at first, or a call has put it in
abbrev pub is_in : World → ℕ → Bool
is_in world = is_there (old_of world) (past_of world)

-- the index was there at first, or a call that added it has ended
abbrev pub is_done : World → ℕ → Bool
is_done world = is_finished 4 (old_of world) (past_of world)

abbrev pub items_or_none : Option Walk → List ℕ
items_or_none None = []
items_or_none (Some walk) = walk.items

abbrev pub reads_or_none : Option Walk → ℕ
reads_or_none None = 0
reads_or_none (Some walk) = walk.reads

abbrev pub left_or_none : Option Walk → List Place
left_or_none None = []
left_or_none (Some walk) = walk.left

-- one of these words lies in layer 0
abbrev pub HasLeaf : List Place → Type 0
HasLeaf [] = ⊥
HasLeaf (place ∷ places) = (place.layer ≡ 0) ⊎ HasLeaf places

-- what a walk gave by now
abbrev pub given : World → ℕ → List ℕ
given world walk = items_or_none (walk_in world walk)

-- how many words a walk has read
abbrev pub reads_of : World → ℕ → ℕ
reads_of world walk = reads_or_none (walk_in world walk)

-- a walk knows of a word of layer 0 that it has still to read
abbrev pub HasLeafAhead : World → ℕ → Type 0
HasLeafAhead world walk = HasLeaf (left_or_none (walk_in world walk))

-- an index of the set lies in this range of 262,144
abbrev pub HasIn : World → ℕ → Type 0
HasIn world range = (i : ℕ) × (i / 262144 ≡ range) × (is_in world i ≡ true)
