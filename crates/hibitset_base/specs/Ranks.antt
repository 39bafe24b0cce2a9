-- How many members come before an index, and which one stands at a place of their list.
use Rattle.std.specs.Prelude.{◌≡◌, ℕ, ◌-◌, ◌*◌, ◌/◌, ◌^◌, ◌<◌, ◌≤◌, Bool, true, List, length, get_or}
use Rattle.hibitset_base.specs.Members.{members_below}
use Rattle.hibitset_base.specs.declared.util.TheConstants.{MAX_EID}

-- where the place over an index begins, in a layer
abbrev pub start_over : ℕ → ℕ → ℕ
start_over i l = i / 64 ^ l * 64 ^ l

-- The test holds of x, which lies below the bound, and of so many numbers before it.
pub record IsNth (bound k : ℕ) (p : ℕ → Bool) (x : ℕ) : Type 0 where
  pub within : x < bound
  pub stands : p x ≡ true
  pub before : length (members_below x p) ≡ k

-- how many indices lie under a word of layer 1
abbrev pub block_size : ℕ
block_size = 64 * 64

-- each count is that of the members before the block at its position
abbrev pub CountsBefore : (ℕ → Bool) → List ℕ → Type 0
CountsBefore p counts = (k : ℕ) → k < length counts → get_or counts k 0 ≡ length (members_below (block_size * k) p)

-- Each count is that of the members before a block, and the last one is that of all.
pub record AreCounts (p : ℕ → Bool) (counts : List ℕ) : Type 0 where
  pub some : 0 < length counts
  pub within : block_size * (length counts - 1) ≤ MAX_EID
  pub each : CountsBefore p counts
  pub all : members_below (block_size * (length counts - 1)) p ≡ members_below MAX_EID p
