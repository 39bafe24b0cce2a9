-- Where the value of a bit lies, if there is one for each bit that is set.
use Rattle.std.specs.Prelude.{◌≡◌, ◌≢◌, ◌<◌, ℕ, ◌%◌, ◌^◌, ◌==◌, Bool, Option, None, if◌then◌else◌}
use Rattle.std.specs.Int.{bit_at}
use Rattle.std.specs.Int.RustNames.{count_ones}

-- how many bits of a word are set below a bit
unfoldable pub rank_in : ℕ → ℕ → ℕ
rank_in word bit = count_ones (word % 2 ^ bit)

-- the bit of a word is set
abbrev pub bit_is_set : ℕ → ℕ → Bool
bit_is_set word bit = bit_at word bit == 1

-- the value of a bit of a word, if it is set, where the values by rank are these
abbrev pub value_from : {T : Type 0} → (ℕ → Option T) → ℕ → ℕ → Option T
value_from value word bit = if bit_is_set word bit then value (rank_in word bit) else None

-- A bit of word w is clear which is set in v; they are the same otherwise.
pub record IsSetAt (v w b : ℕ) : Type 0 where
  pub within : b < 64
  pub clear : bit_at w b ≡ 0
  pub set : bit_at v b ≡ 1
  pub same : (j : ℕ) → j < 64 → j ≢ b → bit_at v j ≡ bit_at w j
