-- Two maps joined: the indices that both have, with both values.
use Rattle.std.specs.Prelude.{◌≡◌, ℕ, Bool, true, ◌&&◌, List, [], ◌∷◌, Option, Some, None}
use Rattle.std.specs.List.{All, flat_map}
use Rattle.std.specs.Option.{is_some}
use Rattle.std.specs.Borrow.{Bor}
use Rattle.hibitset_base.specs.Members.{members_below}
use Rattle.hibitset_base.specs.declared.util.TheConstants.{MAX_EID}
use Rattle.hibitset_store.specs.Columns.{Map}

module _ {V W : Type 0} where
  -- an index with its two values, where it has both
  abbrev pub pair : ℕ → Option V → Option W → List (ℕ × V × W)
  pair i (Some v) (Some w) = (i, v, w) ∷ []
  pair i (Some v) None = []
  pair i None second = []

  -- those of these indices that both maps have, each with its two values
  abbrev pub pairs : Map V → Map W → List ℕ → List (ℕ × V × W)
  pairs first second = flat_map (λ i. pair i (first i) (second i))

  -- both maps have the index
  abbrev pub in_both : Map V → Map W → ℕ → Bool
  in_both first second i = is_some (first i) && is_some (second i)

  -- both maps have each of these indices
  abbrev pub AreInBoth : Map V → Map W → List ℕ → Type 0
  AreInBoth first second = All (λ i. in_both first second i ≡ true)

  -- the join: the indices that both maps have, ascending, each with its two values
  abbrev pub join_of : Map V → Map W → List (ℕ × V × W)
  join_of first second = pairs first second (members_below MAX_EID (in_both first second))

  -- the join, restricted to the indices that a set holds
  abbrev pub joined_within : Map V → Map W → (ℕ → Bool) → List (ℕ × V × W)
  joined_within first second holds = pairs first second (members_below MAX_EID (λ i. in_both first second i && holds i))

  -- an item, with its values read
  abbrev pub seen : ℕ × Bor V × Bor W → ℕ × V × W
  seen (i, first, second) = (i, first.now, second.now)
