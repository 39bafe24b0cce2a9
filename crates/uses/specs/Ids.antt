-- What a contract sees of identifiers.
use Rattle.std.specs.Prelude.{◌≡◌, ℕ, ◌+◌, ◌<◌, ◌≤◌, Bool, false, not}
use Rattle.hibitset.specs.Prelude.{MAX_EID, has}
use Rattle.uses.specs.declared.ids.Ids.{Ids}

-- the identifier is in use
abbrev pub in_use : Ids → ℕ → Bool
in_use ids = has ids.used

-- the identifier may be given
abbrev pub is_free : Ids → ℕ → Bool
is_free ids i = not (in_use ids i)

-- So many identifiers from a start on are all free.
pub record IsFreeRun (used : ℕ → Bool) (count start : ℕ) : Type 0 where
  pub within : start + count ≤ MAX_EID
  pub free : (i : ℕ) → start ≤ i → i < start + count → used i ≡ false

-- They are, and no such run begins before them.
pub record IsFirstRun (used : ℕ → Bool) (count start : ℕ) : Type 0 where
  pub here : IsFreeRun used count start
  pub first : (other : ℕ) → IsFreeRun used count other → start ≤ other

-- there is no such run
abbrev pub HasNoRun : (ℕ → Bool) → ℕ → Type 0
HasNoRun used count = (start : ℕ) → ¬ IsFreeRun used count start
