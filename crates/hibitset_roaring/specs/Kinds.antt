-- Streams by their members and by which containers are runs. These two fix a stream: no other bytes are one.
use Rattle.std.specs.Prelude.{◌≡◌, ℕ, ◌+◌, ◌*◌, ◌/◌, ◌<◌, ◌≤◌, Bool, true, false, ◌&&◌, if◌then◌else◌, List, length}
use Rattle.hibitset_base.specs.Members.{members}
use Rattle.hibitset_roaring.specs.Format.{has_runs, container_count, key_of, is_run, holds, IsStream, AreBytes}
use Rattle.hibitset_roaring.specs.Streams.{flat_bytes}
use Rattle.hibitset_roaring.specs.Runs.{members_under, count_of_runs, are_runs_shorter}

-- how many members have these high bits
unfoldable pub cardinality_under : (ℕ → Bool) → ℕ → ℕ
cardinality_under has key = length (members (members_under has key) 0 65536)

-- which containers are runs if none is, by their keys
abbrev pub none_are_runs : ℕ → Bool
none_are_runs key = false

-- and if those are that take fewer bytes so
unfoldable pub shorter_are_runs : (ℕ → Bool) → ℕ → Bool
shorter_are_runs has key = are_runs_shorter (count_of_runs (members_under has key)) (cardinality_under has key)

-- as one chooses
abbrev pub chosen_are_runs : Bool → (ℕ → Bool) → ℕ → Bool
chosen_are_runs optimized has key = optimized && shorter_are_runs has key

-- how many bytes the container of a key takes
unfoldable pub bytes_under : (ℕ → Bool) → (ℕ → Bool) → ℕ → ℕ
bytes_under has runs key = if runs key then 2 + 4 * count_of_runs (members_under has key) else flat_bytes (cardinality_under has key)

-- The bytes are a stream with these members, in which the containers with these keys are runs. The cookie allows runs
-- only if some container is runs, and the flags past the last container's are clear.
pub record IsStreamOf (has runs : ℕ → Bool) (bytes : List ℕ) : Type 0 where
  pub are : AreBytes bytes
  pub stream : IsStream bytes
  pub members : (i : ℕ) → holds bytes i ≡ has i
  pub kinds : (k : ℕ) → k < container_count bytes → is_run bytes k ≡ runs (key_of bytes k)
  pub cookie : has_runs bytes ≡ true → (k : ℕ) × (k < container_count bytes) × (is_run bytes k ≡ true)
  pub padding : (k : ℕ) → container_count bytes ≤ k → k / 8 < (container_count bytes + 7) / 8 → is_run bytes k ≡ false
