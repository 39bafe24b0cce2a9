-- Items that are written into a buffer.
use Rattle.std.specs.Prelude.{◌≡◌, ℕ, ◌≤◌, List, drop, length, take}

-- The first items of a list are written, until the buffer is full or there are no more, and this is how many they are.
-- What lies after them stays.
pub record Fills (items old : List ℕ) (count : ℕ) (new : List ℕ) : Type 0 where
  pub written : take count new ≡ take (length old) items
  pub within : count ≤ length old
  pub rest : drop count new ≡ drop count old
  pub length_stays : length new ≡ length old
