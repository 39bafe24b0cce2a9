-- What a contract sees of the cursor of a walk down.
use Rattle.std.specs.Prelude.{◌≡◌, ℕ, ◌<◌, List, get_or}
use Rattle.hibitset_base.specs.Places.{Place}
use Rattle.hibitset_base.specs.RevPlaces.{rev_places}
use Rattle.hibitset_base.specs.declared.rev_cursor.RevCursor.{RevCursor}

module _ {n : ℕ} where
  -- the places that are left, the next one last
  abbrev pub rev_left : RevCursor n → List Place
  rev_left cursor = rev_places (λ l. get_or cursor.masks l 0) (λ l. get_or cursor.starts l 0) n

  -- the mask of a layer
  abbrev pub rev_mask : RevCursor n → ℕ → ℕ
  rev_mask cursor layer = get_or cursor.masks layer 0

  -- no bit is left in the layers below this one
  abbrev pub IsRevEmptyBelow : RevCursor n → ℕ → Type 0
  IsRevEmptyBelow cursor layer = (l : ℕ) → l < layer → rev_mask cursor l ≡ 0
