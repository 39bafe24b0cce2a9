-- Numbers in bytes, the lowest byte first. Past the end of a list of bytes all bytes are 0.
use Rattle.std.specs.Prelude.{ℕ, zero, suc, ◌+◌, ◌*◌, Bool, false, ◌||◌, List, get_or}
use Rattle.std.specs.Int.RustNames.{count_ones}

-- the number of two bytes at a position
unfoldable pub u16_at : List ℕ → ℕ → ℕ
u16_at bytes at = get_or bytes at 0 + 256 * get_or bytes (at + 1) 0

-- of four
unfoldable pub u32_at : List ℕ → ℕ → ℕ
u32_at bytes at = u16_at bytes at + 65536 * u16_at bytes (at + 2)

-- of eight
unfoldable pub u64_at : List ℕ → ℕ → ℕ
u64_at bytes at = u32_at bytes at + 4294967296 * u32_at bytes (at + 4)

-- some number below n passes the test
unfoldable pub any_below : ℕ → (ℕ → Bool) → Bool
any_below zero test = false
any_below (suc n) test = test n || any_below n test

-- how many bits are set in n numbers of eight bytes, from a position on
unfoldable pub ones_in : List ℕ → ℕ → ℕ → ℕ
ones_in bytes at zero = 0
ones_in bytes at (suc n) = ones_in bytes at n + count_ones (u64_at bytes (at + 8 * n))
