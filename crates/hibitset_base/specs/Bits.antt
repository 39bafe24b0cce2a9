-- Some of the bits of one word.
use Rattle.std.specs.Prelude.{◌≡◌, ℕ, ◌<◌, ◌≤◌}
use Rattle.std.specs.Int.{bit_at}

-- The bits of a word m from bit a on before bit b are those of part, which has no other.
pub record HasPart (m a b part : ℕ) : Type 0 where
  pub order : a ≤ b
  pub few : b ≤ 64
  pub same : (j : ℕ) → a ≤ j → j < b → bit_at part j ≡ bit_at m j
  pub before : (j : ℕ) → j < a → bit_at part j ≡ 0
  pub after : (j : ℕ) → b ≤ j → j < 64 → bit_at part j ≡ 0
