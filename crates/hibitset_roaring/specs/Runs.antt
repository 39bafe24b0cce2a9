-- Runs of consecutive numbers, and how many of them the numbers of a container form.
use Rattle.std.specs.Prelude.{ℕ, zero, suc, ◌+◌, ◌*◌, Bool, ◌&&◌, not, if◌then◌else◌, nat_le, nat_lt, length}
use Rattle.hibitset_base.specs.Members.{members}

-- the members with these high bits, by their low bits
abbrev pub members_under : (ℕ → Bool) → ℕ → ℕ → Bool
members_under has high low = has (65536 * high + low)

-- A run begins at a number that passes the test, if the number before it does not.
unfoldable pub begins_run : (ℕ → Bool) → ℕ → Bool
begins_run test zero = test zero
begins_run test (suc low) = test (suc low) && not (test low)

-- how many runs the numbers below 65536 form that pass the test
unfoldable pub count_of_runs : (ℕ → Bool) → ℕ
count_of_runs test = length (members (begins_run test) 0 65536)

-- As runs the numbers take fewer bytes than otherwise: as an array of at most 4096, with two bytes for its length, or
-- as 65536 bits.
unfoldable pub are_runs_shorter : ℕ → ℕ → Bool
are_runs_shorter runs cardinality =
    if nat_le cardinality 4096 then nat_lt (2 + 4 * runs) (2 + 2 * cardinality) else nat_lt (2 + 4 * runs) 8192
