-- What the operators mean. A set is given by what it holds of, and the word is true at every number.
use Rattle.std.specs.Prelude.{◌≡◌, ℕ, ◌<◌, Bool, true, false, ◌&&◌, ◌||◌, not, nat_lt}
use Rattle.hibitset_base.specs.Virtual.{differ}
use Rattle.hibitset_base.specs.declared.util.TheConstants.{MAX_EID}

-- the number is a member of a set that holds so: it lies in the range too
abbrev pub is_member : (ℕ → Bool) → ℕ → Bool
is_member holds i = nat_lt i MAX_EID && holds i

-- the result has exactly the numbers that the set lacks
abbrev pub IsComplement : (ℕ → Bool) → (ℕ → Bool) → Type 0
IsComplement set result = (i : ℕ) → result i ≡ not (set i)

-- the result has exactly the numbers that are in both
abbrev pub IsIntersection : (ℕ → Bool) → (ℕ → Bool) → (ℕ → Bool) → Type 0
IsIntersection set other result = (i : ℕ) → result i ≡ (set i && other i)

-- the result has exactly the numbers that are in at least one of the two
abbrev pub IsUnion : (ℕ → Bool) → (ℕ → Bool) → (ℕ → Bool) → Type 0
IsUnion set other result = (i : ℕ) → result i ≡ (set i || other i)

-- the result has exactly the numbers of the set that the other lacks
abbrev pub IsDifference : (ℕ → Bool) → (ℕ → Bool) → (ℕ → Bool) → Type 0
IsDifference set other result = (i : ℕ) → result i ≡ (set i && not (other i))

-- the result has exactly the numbers that are in one of the two alone
abbrev pub IsSymmetricDifference : (ℕ → Bool) → (ℕ → Bool) → (ℕ → Bool) → Type 0
IsSymmetricDifference set other result = (i : ℕ) → result i ≡ differ (set i) (other i)

-- the two have no number below the bound in common
abbrev pub AreDisjoint : ℕ → (ℕ → Bool) → (ℕ → Bool) → Type 0
AreDisjoint bound set other = (i : ℕ) → i < bound → set i ≡ true → other i ≡ false

-- each number of the set below the bound is in the other
abbrev pub IsSubset : ℕ → (ℕ → Bool) → (ℕ → Bool) → Type 0
IsSubset bound set other = (i : ℕ) → i < bound → set i ≡ true → other i ≡ true
