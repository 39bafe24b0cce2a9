-- What is known of the bytes of a stream while it is written.
use Rattle.std.specs.Prelude.{◌≡◌, ℕ, zero, suc, ◌+◌, ◌*◌, ◌/◌, ◌%◌, ◌<◌, ◌≤◌, Bool, true, false, ◌==◌, ◌||◌, not, if◌then◌else◌, nat_le, List, get_or, length}
use Rattle.std.specs.Int.{bit_at}
use Rattle.hibitset.specs.WordBits.{stands_in}
use Rattle.hibitset_roaring.specs.Numbers.{u16_at, u32_at, ones_in}
use Rattle.hibitset_roaring.specs.Format.{in_array, IsArray, in_bits, run_count, run_first, run_last, in_runs}
use Rattle.hibitset_roaring.specs.Words.{ones_under}
use Rattle.hibitset_roaring.specs.Runs.{members_under, count_of_runs, are_runs_shorter}

-- the bytes before this position are as they were
pub record SameBefore (end : ℕ) (old new : List ℕ) : Type 0 where
  pub byte : (p : ℕ) → p < end → get_or new p 0 ≡ get_or old p 0

-- ---- the containers of a set

-- These are the high bits of the members in words, ascending, below a bound, and how many members have them.
pub record AreHeads (words keys counts : List ℕ) (bound : ℕ) : Type 0 where
  pub same : length counts ≡ length keys
  pub few : length keys ≤ bound
  pub within : (k : ℕ) → k < length keys → get_or keys k 0 < bound
  pub ascending : (k : ℕ) → k + 1 < length keys → get_or keys k 0 < get_or keys (k + 1) 0
  pub counted : (k : ℕ) → k < length keys → get_or counts k 0 ≡ ones_under words (get_or keys k 0)
  pub some : (k : ℕ) → k < length keys → 0 < get_or counts k 0
  pub small : (k : ℕ) → k < length keys → get_or counts k 0 ≤ 65536
  pub all : (key : ℕ) → key < bound → 0 < ones_under words key → (k : ℕ) × (k < length keys) × (get_or keys k 0 ≡ key)

-- The `count` members with these high bits form `runs` runs; or at least as many, if these are no shorter.
pub record IsRunCount (words : List ℕ) (key count runs : ℕ) : Type 0 where
  pub kind : are_runs_shorter runs count ≡ are_runs_shorter (count_of_runs (members_under (stands_in words) key)) count
  pub exact : are_runs_shorter runs count ≡ true → runs ≡ count_of_runs (members_under (stands_in words) key)

pub record AreRunCounts (words keys counts runs : List ℕ) : Type 0 where
  pub same : length runs ≡ length keys
  pub each : (k : ℕ) → k < length keys → IsRunCount words (get_or keys k 0) (get_or counts k 0) (get_or runs k 0)

-- A number for each container says its kind: if so many runs take fewer bytes than an array or bits, the container is
-- runs, and of that number. As many runs as members never take fewer, so these numbers mean no runs.
pub record AreKinds (words keys counts runs : List ℕ) : Type 0 where
  pub same : length runs ≡ length keys
  pub exact : (k : ℕ) → k < length keys → are_runs_shorter (get_or runs k 0) (get_or counts k 0) ≡ true
      → get_or runs k 0 ≡ count_of_runs (members_under (stands_in words) (get_or keys k 0))

-- The containers that are runs are those with these keys.
pub record HaveKeys (runs_under : ℕ → Bool) (keys counts runs : List ℕ) : Type 0 where
  pub kind : (k : ℕ) → k < length keys → are_runs_shorter (get_or runs k 0) (get_or counts k 0) ≡ runs_under (get_or keys k 0)

-- `some` says whether some container is runs.
pub record SaysRuns (some : Bool) (counts runs : List ℕ) : Type 0 where
  pub any : some ≡ true → (k : ℕ) × (k < length counts) × (are_runs_shorter (get_or runs k 0) (get_or counts k 0) ≡ true)
  pub none : some ≡ false → (k : ℕ) → k < length counts → are_runs_shorter (get_or runs k 0) (get_or counts k 0) ≡ false

-- ---- where the parts begin

-- how many bytes a container takes that is no run
abbrev pub flat_bytes : ℕ → ℕ
flat_bytes count = if nat_le count 4096 then 2 * count else 8192

-- how many bytes a container takes, by its numbers of members and of runs
unfoldable pub container_bytes : ℕ → ℕ → ℕ
container_bytes count runs = if are_runs_shorter runs count then 2 + 4 * runs else flat_bytes count

-- where container k begins, by where the first does and the numbers of members and of runs of each
unfoldable pub start_from : ℕ → List ℕ → List ℕ → ℕ → ℕ
start_from first counts runs zero = first
start_from first counts runs (suc k) = start_from first counts runs k + container_bytes (get_or counts k 0) (get_or runs k 0)

-- where the keys begin, with runs or without, by the number of containers
abbrev pub fields_after : Bool → ℕ → ℕ
fields_after some count = if some then 4 + (count + 7) / 8 else 8

-- whether there are offsets
abbrev pub offsets_after : Bool → ℕ → Bool
offsets_after some count = not some || nat_le 4 count

-- where the first container begins
abbrev pub first_after : Bool → ℕ → ℕ
first_after some count =
    if offsets_after some count then fields_after some count + 4 * count + 4 * count else fields_after some count + 4 * count

-- ---- what is written

-- A container at a position has the members with these high bits, and is no runs.
pub record IsWritten (words out : List ℕ) (at key count : ℕ) : Type 0 where
  pub array : count ≤ 4096 → IsArray out at count
  pub listed : count ≤ 4096 → (v : ℕ) → v < 65536 → in_array out at count v ≡ stands_in words (65536 * key + v)
  pub bits : 4096 < count → ones_in out at 1024 ≡ count
  pub marked : 4096 < count → (v : ℕ) → v < 65536 → in_bits out at v ≡ stands_in words (65536 * key + v)

-- At a position are `runs` runs, of the members with these high bits.
pub record AreRunsOf (words out : List ℕ) (at key runs : ℕ) : Type 0 where
  pub number : run_count out at ≡ runs
  pub within : (r : ℕ) → r < runs → run_last out at r < 65536
  pub apart : (r : ℕ) → r + 1 < runs → run_last out at r + 1 < run_first out at (r + 1)
  pub members : (v : ℕ) → v < 65536 → in_runs out at v ≡ stands_in words (65536 * key + v)

-- A container at a position has the members with these high bits, as runs if these are shorter.
pub record IsKindWritten (words out : List ℕ) (at key count runs : ℕ) : Type 0 where
  pub flat : are_runs_shorter runs count ≡ false → IsWritten words out at key count
  pub as_runs : are_runs_shorter runs count ≡ true → AreRunsOf words out at key runs

-- The bytes begin with the cookie and the number of containers, and with their flags if some is runs.
pub record IsFront (some : Bool) (out counts runs : List ℕ) : Type 0 where
  pub cookie_with : some ≡ true → u16_at out 0 ≡ 12347
  pub count_with : some ≡ true → u16_at out 2 + 1 ≡ length counts
  pub cookie_without : some ≡ false → u32_at out 0 ≡ 12346
  pub count_without : some ≡ false → u32_at out 4 ≡ length counts
  pub flags : some ≡ true → (k : ℕ) → k / 8 < (length counts + 7) / 8
      → (bit_at (get_or out (4 + k / 8) 0) (k % 8) == 1) ≡ are_runs_shorter (get_or runs k 0) (get_or counts k 0)

-- Behind that are their keys and cardinalities.
pub record IsHeaded (some : Bool) (out keys counts runs : List ℕ) : Type 0 where
  pub front : IsFront some out counts runs
  pub keys_are : (k : ℕ) → k < length keys → u16_at out (fields_after some (length counts) + 4 * k) ≡ get_or keys k 0
  pub counts_are : (k : ℕ) → k < length keys → u16_at out (fields_after some (length counts) + 4 * k + 2) + 1 ≡ get_or counts k 0

-- The containers below a bound: how many there are, whether some is runs, and how many bytes they take.
pub record AreSizes (words : List ℕ) (runs_under : ℕ → Bool) (bound count : ℕ) (some : Bool) (size : ℕ) : Type 0 where
  pub keys : List ℕ
  pub counts : List ℕ
  pub runs : List ℕ
  pub heads : AreHeads words keys counts bound
  pub numbers : AreKinds words keys counts runs
  pub kinds : HaveKeys runs_under keys counts runs
  pub says : SaysRuns some counts runs
  pub counted : count ≡ length keys
  pub long : size ≡ start_from 0 counts runs (length keys)
  pub few : count ≤ bound
  pub most : size ≤ 8192 * bound
