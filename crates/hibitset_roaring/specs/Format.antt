-- The portable Roaring format for sets of numbers below 2 ^ 32: which bytes are a stream, and which numbers it holds.
-- Its public specification is github.com/RoaringBitmap/RoaringFormatSpec. Numbers have their lowest byte first, and
-- positions count bytes from the start.
--
-- A stream is a header and then its containers, one after the other. The header has the number of containers, and of
-- each its key, the high 16 bits of its members, and its cardinality, the number of its members. A container has the
-- low 16 bits of its members: as an array of numbers, if there are at most 4096; as 65536 bits, if there are more; or
-- as runs of consecutive numbers, if a flag of the header says so.
use Rattle.std.specs.Prelude.{◌≡◌, ℕ, zero, suc, ◌+◌, ◌-◌, ◌*◌, ◌/◌, ◌%◌, ◌<◌, ◌≤◌, ◌⊎◌, Bool, true, false, ◌==◌, ◌&&◌, ◌||◌, not, if◌then◌else◌, nat_le, List, ◌++◌, get_or, length}
use Rattle.std.specs.Int.{bit_at}
use Rattle.hibitset_roaring.specs.Numbers.{u16_at, u32_at, u64_at, any_below, ones_in}

-- ---- the header

-- The cookie, with which a stream begins, is 12347 if containers may be runs, and else 12346.
unfoldable pub has_runs : List ℕ → Bool
has_runs bytes = u16_at bytes 0 == 12347

-- how many containers there are
unfoldable pub container_count : List ℕ → ℕ
container_count bytes = if has_runs bytes then u16_at bytes 2 + 1 else u32_at bytes 4

-- where the keys and cardinalities begin: behind the flags, which are a bit for each container, or behind the count
unfoldable pub keys_at : List ℕ → ℕ
keys_at bytes = if has_runs bytes then 4 + (container_count bytes + 7) / 8 else 8

-- the offsets are left out if containers may be runs and there are fewer than four
unfoldable pub has_offsets : List ℕ → Bool
has_offsets bytes = not (has_runs bytes) || nat_le 4 (container_count bytes)

unfoldable pub offsets_at : List ℕ → ℕ
offsets_at bytes = keys_at bytes + 4 * container_count bytes

-- where the first container begins
unfoldable pub first_at : List ℕ → ℕ
first_at bytes = if has_offsets bytes then offsets_at bytes + 4 * container_count bytes else offsets_at bytes

unfoldable pub key_of : List ℕ → ℕ → ℕ
key_of bytes k = u16_at bytes (keys_at bytes + 4 * k)

unfoldable pub cardinality_of : List ℕ → ℕ → ℕ
cardinality_of bytes k = u16_at bytes (keys_at bytes + 4 * k + 2) + 1

unfoldable pub is_run : List ℕ → ℕ → Bool
is_run bytes k = has_runs bytes && (bit_at (get_or bytes (4 + k / 8) 0) (k % 8) == 1)

-- ---- the three kinds of container, which begin at a position

-- an array of `len` numbers
module _ (bytes : List ℕ) (at len : ℕ) where
  unfoldable pub in_array : ℕ → Bool
  in_array low = any_below len (λ j. u16_at bytes (at + 2 * j) == low)

  pub record IsArray : Type 0 where
    pub ascending : (j : ℕ) → j + 1 < len → u16_at bytes (at + 2 * j) < u16_at bytes (at + 2 * (j + 1))

-- 1024 words, with a bit for each number
unfoldable pub in_bits : List ℕ → ℕ → ℕ → Bool
in_bits bytes at low = bit_at (u64_at bytes (at + 8 * (low / 64))) (low % 64) == 1

-- The number of runs, and of each its first number and how many follow that.
module _ (bytes : List ℕ) (at : ℕ) where
  unfoldable pub run_count : ℕ
  run_count = u16_at bytes at

  unfoldable pub run_first : ℕ → ℕ
  run_first r = u16_at bytes (at + 2 + 4 * r)

  unfoldable pub run_last : ℕ → ℕ
  run_last r = run_first r + u16_at bytes (at + 2 + 4 * r + 2)

  -- the number lies in run r
  abbrev pub in_run : ℕ → ℕ → Bool
  in_run r low = nat_le (run_first r) low && nat_le low (run_last r)

  unfoldable pub in_runs : ℕ → Bool
  in_runs low = any_below run_count (λ r. in_run r low)

  -- how many numbers the first n runs have
  unfoldable pub run_total : ℕ → ℕ
  run_total zero = 0
  run_total (suc n) = run_total n + (run_last n + 1 - run_first n)

  pub record AreRuns (cardinality : ℕ) : Type 0 where
    pub within : (r : ℕ) → r < run_count → run_last r < 65536
    pub apart : (r : ℕ) → r + 1 < run_count → run_last r + 1 < run_first (r + 1)
    pub total : run_total run_count ≡ cardinality

-- ---- the containers of a stream

-- how many bytes container k takes if it begins at a position
unfoldable pub size : List ℕ → ℕ → ℕ → ℕ
size bytes k at = if is_run bytes k then 2 + 4 * run_count bytes at else (if nat_le (cardinality_of bytes k) 4096 then 2 * cardinality_of bytes k else 8192)

-- where container k begins: where the one before it ends
unfoldable pub container_at : List ℕ → ℕ → ℕ
container_at bytes zero = first_at bytes
container_at bytes (suc k) = container_at bytes k + size bytes k (container_at bytes k)

-- container k has a member with these low bits
unfoldable pub in_container : List ℕ → ℕ → ℕ → Bool
in_container bytes k low =
    if is_run bytes k then in_runs bytes (container_at bytes k) low
    else (if nat_le (cardinality_of bytes k) 4096 then in_array bytes (container_at bytes k) (cardinality_of bytes k) low
    else in_bits bytes (container_at bytes k) low)

pub record IsContainer (bytes : List ℕ) (k : ℕ) : Type 0 where
  pub runs : is_run bytes k ≡ true → AreRuns bytes (container_at bytes k) (cardinality_of bytes k)
  pub array : is_run bytes k ≡ false → cardinality_of bytes k ≤ 4096 → IsArray bytes (container_at bytes k) (cardinality_of bytes k)
  pub bits : is_run bytes k ≡ false → 4096 < cardinality_of bytes k → ones_in bytes (container_at bytes k) 1024 ≡ cardinality_of bytes k

-- ---- the stream

-- the number is a member: some container has its high bits as its key, and its low bits
unfoldable pub holds : List ℕ → ℕ → Bool
holds bytes i = any_below (container_count bytes) (λ k. (key_of bytes k == i / 65536) && in_container bytes k (i % 65536))

-- The bytes are a stream, with nothing behind it.
pub record IsStream (bytes : List ℕ) : Type 0 where
  pub cookie : (u32_at bytes 0 ≡ 12346) ⊎ (u16_at bytes 0 ≡ 12347)
  pub few : container_count bytes ≤ 65536
  pub ascending : (k : ℕ) → k + 1 < container_count bytes → key_of bytes k < key_of bytes (k + 1)
  pub offsets : has_offsets bytes ≡ true → (k : ℕ) → k < container_count bytes → u32_at bytes (offsets_at bytes + 4 * k) ≡ container_at bytes k
  pub containers : (k : ℕ) → k < container_count bytes → IsContainer bytes k
  pub whole : container_at bytes (container_count bytes) ≡ length bytes

-- every key is below a bound, so every member below 65536 times it
pub record HasKeysBelow (bytes : List ℕ) (end : ℕ) : Type 0 where
  pub keys : (k : ℕ) → k < container_count bytes → key_of bytes k < end

pub record AreBytes (bytes : List ℕ) : Type 0 where
  pub small : (p : ℕ) → get_or bytes p 0 < 256

-- The bytes are a stream without runs, with these members.
pub record IsPlainStream (has : ℕ → Bool) (bytes : List ℕ) : Type 0 where
  pub are : AreBytes bytes
  pub stream : IsStream bytes
  pub plain : has_runs bytes ≡ false
  pub members : (i : ℕ) → holds bytes i ≡ has i

-- No other bytes are.
pub record IsCanonicalStream (has : ℕ → Bool) (bytes : List ℕ) : Type 0 where
  pub plain : IsPlainStream has bytes
  pub only : (other : List ℕ) → IsPlainStream has other → other ≡ bytes

-- Bytes with this property were put behind the old ones.
pub record Appends (P : List ℕ → Type 0) (old new : List ℕ) : Type 0 where
  pub bytes : List ℕ
  pub is : new ≡ old ++ bytes
  pub appended : P bytes
