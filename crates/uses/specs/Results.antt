-- What a contract sees of rows that a search found.
use Rattle.std.specs.Prelude.{◌≡◌, ℕ, ◌+◌, ◌-◌, ◌*◌, ◌/◌, ◌<◌, ◌≤◌, Bool, true, List, length, get_or, min}
use Rattle.hibitset.specs.Prelude.{members, members_below, has, members_of}
use Rattle.hibitset.specs.declared.set.BitSet.{BitSet}

-- The number is a member, and half of the members come before it, rounded down.
pub record IsMedian (set : BitSet) (x : ℕ) : Type 0 where
  pub stands : has set x ≡ true
  pub before : length (members_below x (has set)) ≡ length (members_of set) / 2

-- There is a count for each window that begins below the end: that of the window's members before the end.
pub record IsHistogram (holds : ℕ → Bool) (end width : ℕ) (counts : List ℕ) : Type 0 where
  pub reaches : end ≤ length counts * width
  pub needed : (k : ℕ) → k < length counts → k * width < end
  pub each : (k : ℕ) → k < length counts → get_or counts k 0 ≡ length (members holds (k * width) (min (k * width + width) end - k * width))
