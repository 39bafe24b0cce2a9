-- What a contract sees of a walk over a shared set.
use Rattle.std.specs.Prelude.{◌≡◌, ◌⊎◌, ℕ, ◌+◌, ◌-◌, ◌*◌, ◌/◌, ◌^◌, ◌<◌, ◌≤◌, List, [], ◌∷◌, All, Option, MatchOption, IfSome}
use Rattle.std.specs.Borrow.{GName}
use Rattle.hibitset_base.specs.Places.{Place}
use Rattle.hibitset_base.specs.Cursor.{cursor_places}
use Rattle.hibitset_base.specs.WordsRead.{depth}
use Rattle.hibitset_atomic.specs.declared.shared.view.View.{View}
use Rattle.hibitset_atomic.specs.declared.shared.types.Seat.{Seat}
use Rattle.hibitset_atomic.specs.declared.shared.types.SharedBitSet.{SharedBitSet}
use Rattle.hibitset_atomic.specs.declared.shared.walk.SharedWalk.{SharedWalk}
use Rattle.hibitset_atomic.specs.declared.atomic.TheConstants.{ATOMIC_MAX_EID}
use Rattle.hibitset_atomic.specs.declared.layers.TheConstants.{ATOMIC_LAYERS}
use Rattle.hibitset_atomic.specs.Lists.{Has}
use Rattle.hibitset_atomic.specs.Levels.{first_mark}
use Rattle.hibitset_atomic.specs.Seats.{IsOld, BelongsTo, IsKnown, weight_of, reports_of, loads_by, exchanges_by}

-- ---- places among words that others write

abbrev pub view_of : Seat → View
view_of s = s.pass.me.0

-- The seat has seen the bit of this place, and each bit above it. The layer past the highest has one place, the root,
-- over the highest layer's word, and no bits.
pub record IsSeen (v : View) (place : Place) : Type 0 where
  pub layer : place.layer ≤ ATOMIC_LAYERS
  pub within : place.position < 64 ^ (ATOMIC_LAYERS - place.layer)
  pub seen : (l : ℕ) → place.layer ≤ l → l < ATOMIC_LAYERS → Has v.seen (first_mark l + place.position / 64 ^ (l - place.layer))

-- a place that is not the root
abbrev pub IsBelowRoot : Place → Type 0
IsBelowRoot place = place.layer < ATOMIC_LAYERS

-- the root can only be first
abbrev pub RestIsLow : List Place → Type 0
RestIsLow [] = Unit {0}
RestIsLow (place ∷ ps) = All IsBelowRoot ps

-- A walk that has made so many loads may have these places left.
pub record WalkInvariant (v : View) (loads : ℕ) (ps : List Place) : Type 0 where
  pub seen : All (IsSeen v) ps
  pub rest : RestIsLow ps
  pub opened : 0 < loads → All IsBelowRoot ps
  pub fresh : All IsBelowRoot ps → 0 < loads

-- the index lies under one of these places
abbrev pub IsUnder : List Place → ℕ → Type 0
IsUnder [] i = ⊥
IsUnder (place ∷ ps) i = (i / 64 ^ place.layer ≡ place.position) ⊎ IsUnder ps i

-- the least index that may lie under these places
abbrev pub lowest : List Place → ℕ
lowest [] = ATOMIC_MAX_EID
lowest (place ∷ ps) = place.position * 64 ^ place.layer

-- old, or known to the seat
abbrev pub IsOldOrKnown : SharedBitSet → Seat → ℕ → Type 0
IsOldOrKnown set s i = IsOld set i ⊎ IsKnown s i

-- what a load keeps of a seat
pub record Keeps (set : SharedBitSet) (old new : Seat) : Type 0 where
  pub came : BelongsTo set new
  pub weight : weight_of new ≡ weight_of old
  pub reports : reports_of new ≡ reports_of old
  pub seen : (m : ℕ) → Has (view_of old).seen m → Has (view_of new).seen m
  pub exchanged : exchanges_by new ≡ exchanges_by old

-- A walk that had made so many loads, with the places ps left, has come to the later count and the places qs without
-- giving an item.
pub record LoadsTo (set : SharedBitSet) (old new : Seat) (loads : ℕ) (ps : List Place) (later : ℕ) (qs : List Place) : Type 0 where
  pub keeps : Keeps set old new
  pub stands : WalkInvariant (view_of new) later qs
  pub due : (i : ℕ) → IsOldOrKnown set old i → IsUnder ps i → IsUnder qs i
  pub from : lowest ps ≤ lowest qs
  pub few : later + depth qs ≤ loads + depth ps
  pub loaded : loads_by new + loads ≡ loads_by old + later

-- ---- the walk, as its users see it

unfoldable pub set_of : SharedWalk → SharedBitSet
set_of walk = walk.set.now

-- the walk's seat, as it is now
unfoldable pub seat_of : SharedWalk → Seat
seat_of walk = walk.seat.now

-- The ghost name of the reference to the seat. It is open to callers, in whose proofs a loan ends by it.
abbrev pub lender : SharedWalk → GName
lender walk = walk.seat.ghost_name

-- how many words the walk has loaded
unfoldable pub loads_of : SharedWalk → ℕ
loads_of walk = walk.reads.count

-- no index below this one comes any more
unfoldable pub next_from : SharedWalk → ℕ
next_from walk = lowest (cursor_places walk.cursor)

-- the seat came from the walk's set, and has seen what the walk goes by
unfoldable pub IsReady : SharedWalk → Type 0
IsReady walk = BelongsTo (set_of walk) (seat_of walk) × WalkInvariant (view_of (seat_of walk)) (loads_of walk) (cursor_places walk.cursor)

-- the walk has still to give this index
unfoldable pub IsDue : SharedWalk → ℕ → Type 0
IsDue walk i = IsOldOrKnown (set_of walk) (seat_of walk) i × IsUnder (cursor_places walk.cursor) i

-- what a step of a walk gives
pub record SharedSteps (old : SharedWalk) (item : Option ℕ) (new : SharedWalk) : Type 0 where
  pub ready : IsReady new
  pub same_reference : lender new ≡ lender old
  pub set : set_of new ≡ set_of old
  pub came : BelongsTo (set_of new) (seat_of new)
  pub weight : weight_of (seat_of new) ≡ weight_of (seat_of old)
  pub reports : reports_of (seat_of new) ≡ reports_of (seat_of old)
  pub known : (i : ℕ) → IsKnown (seat_of old) i → IsKnown (seat_of new) i
  pub given : MatchOption item (next_from new ≡ ATOMIC_MAX_EID) (λ i. IsKnown (seat_of new) i × (i < ATOMIC_MAX_EID) × (next_from old ≤ i) × (i < next_from new))
  pub ahead : IfSome item (λ x. (i : ℕ) → IsDue new i → x < i)
  pub due : (i : ℕ) → IsDue old i → MatchOption item ⊥ (λ x. (i ≡ x) ⊎ IsDue new i)
  pub first : loads_of new ≤ loads_of old + ATOMIC_LAYERS
  pub later : 0 < loads_of old → loads_of new ≤ loads_of old + (ATOMIC_LAYERS - 1)
  pub begun : 0 < loads_of new
  pub loaded : loads_by (seat_of new) + loads_of old ≡ loads_by (seat_of old) + loads_of new
  pub exchanged : exchanges_by (seat_of new) ≡ exchanges_by (seat_of old)
