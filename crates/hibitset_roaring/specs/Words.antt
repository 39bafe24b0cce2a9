-- The words of layer 0, into which members are read and of which they are written, and those of layer 1 over them.
use Rattle.std.specs.Prelude.{◌≡◌, ℕ, zero, suc, ◌+◌, ◌-◌, ◌*◌, ◌/◌, ◌%◌, ◌<◌, ◌≤◌, Bool, ◌==◌, ◌&&◌, ◌||◌, nat_le, nat_lt, List, get_or}
use Rattle.std.specs.Int.{bit_at}
use Rattle.std.specs.Int.RustNames.{count_ones}
use Rattle.hibitset.specs.WordBits.{stands_in}

-- The new words have the bits of the old ones, and those of the numbers with these high bits whose low bits pass the
-- test.
pub record Adds (high : ℕ) (low : ℕ → Bool) (old new : List ℕ) : Type 0 where
  pub bits : (i : ℕ) → stands_in new i ≡ (stands_in old i || ((i / 65536 == high) && low (i % 65536)))

-- the number is that of a bit of the word whose first bit has the number `first`
abbrev pub in_word : ℕ → ℕ → ℕ → Bool
in_word first word v = nat_le first v && (nat_lt v (first + 64) && (bit_at word (v - first) == 1))

-- how many bits are set in n words, from one on
unfoldable pub ones_from : List ℕ → ℕ → ℕ → ℕ
ones_from words base zero = 0
ones_from words base (suc n) = ones_from words base n + count_ones (get_or words (base + n) 0)

-- how many members have these high bits
abbrev pub ones_under : List ℕ → ℕ → ℕ
ones_under words key = ones_from words (1024 * key) 1024

-- These bits tell which of the 16 words of layer 1 over a container are not 0.
pub record AreBlocks (above : List ℕ) (key blocks : ℕ) : Type 0 where
  pub bits : (b : ℕ) → b < 64 → (bit_at blocks b == 1) ≡ (nat_lt b 16 && nat_lt 0 (get_or above (16 * key + b) 0))

-- These are the bits of the word of layer 1 over a slot of a container that lie above the slot's.
pub record IsRest (above : List ℕ) (key slot rest : ℕ) : Type 0 where
  pub upper : (b : ℕ) → slot % 64 < b → b < 64 → bit_at rest b ≡ bit_at (get_or above (16 * key + slot / 64) 0) b
  pub lower : (b : ℕ) → b ≤ slot % 64 → bit_at rest b ≡ 0

-- Over each nonzero word the bit of layer 1 is set.
pub record AreSummaries (words above : List ℕ) : Type 0 where
  pub bits : (p : ℕ) → 0 < get_or words p 0 → bit_at (get_or above (p / 64) 0) (p % 64) ≡ 1
