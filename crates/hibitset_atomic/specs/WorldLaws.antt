-- What holds of every world.
use Rattle.std.specs.Prelude.{◌≡◌, ℕ, ◌+◌, ◌*◌, ◌/◌, ◌^◌, ◌<◌, true, ◌&&◌, not, ◌==◌, length, Some}
use Rattle.hibitset_base.specs.Sets.{bit_of}
use Rattle.hibitset_atomic.specs.declared.layers.TheConstants.{ATOMIC_LAYERS}
use Rattle.hibitset_atomic.specs.declared.steps.state.World.{World}
use Rattle.hibitset_atomic.specs.History.{Walk, some_in, is_there}
use Rattle.hibitset_atomic.specs.HistoryFacts.{IsHonest, IsNext, IsWithin, HasBits, reports}
use Rattle.hibitset_atomic.specs.Worlds.{old_of, past_of, stands_in, walk_in, is_written, IsResting}

-- a statement on each walk of a world
abbrev pub EachWalk : World → (ℕ → Walk → Type 0) → Type 0
EachWalk world P = (w : ℕ) (walk : Walk) → walk_in world w ≡ Some walk → P w walk

-- each walk is honest
abbrev pub WalksAreHonest : World → Type 0
WalksAreHonest world = EachWalk world (λ w walk. IsHonest ATOMIC_LAYERS (old_of world) (past_of world) w walk)

-- each walk reads next the word that lies first in the lowest layer
abbrev pub LowestIsRead : World → Type 0
LowestIsRead world = EachWalk world (λ w walk. IsNext walk.left)

-- each walk has read at most three words an item and one, or three where it has not ended
abbrev pub FewAreRead : World → Type 0
FewAreRead world = EachWalk world (λ w walk. IsWithin ATOMIC_LAYERS (length walk.items) walk.reads walk.left)

-- each word that a walk reads after its first is not 0
abbrev pub NoneIsEmpty : World → Type 0
NoneIsEmpty world = EachWalk world (λ w walk. 0 < walk.reads → HasBits (stands_in world) walk.left)

-- a summary bit is set only over a nonzero word
abbrev pub NoneIsHollow : World → Type 0
NoneIsHollow world = (l q : ℕ) → stands_in world (l + 1) q ≡ true → some_in (stands_in world l) (64 * q) 64 ≡ true

-- no number past the range is old or written
abbrev pub NoneIsBeyond : World → Type 0
NoneIsBeyond world = (i : ℕ) → is_there (old_of world) (past_of world) i ≡ true → i < 64 ^ ATOMIC_LAYERS

-- how often an index was reported new
abbrev pub reports_in : World → ℕ → ℕ
reports_in world = reports (old_of world) (past_of world)

-- each index that is written and not old was reported new once, and no other ever
abbrev pub NewOnce : World → Type 0
NewOnce world = (i : ℕ) → reports_in world i ≡ bit_of (is_written world i && not (old_of world i))

-- at rest each bit has its summary bit
abbrev pub RestIsExact : World → Type 0
RestIsExact world = IsResting world → (l q : ℕ) → l + 1 < ATOMIC_LAYERS → stands_in world l q ≡ true → stands_in world (l + 1) (q / 64) ≡ true

-- the old set are the members that no call reported new
abbrev pub OldIsTold : World → Type 0
OldIsTold world = (i : ℕ) → old_of world i ≡ (stands_in world 0 i && reports_in world i == 0)
