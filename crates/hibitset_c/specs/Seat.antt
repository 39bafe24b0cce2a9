-- What a contract sees of a seat that C keeps.
use Rattle.std.specs.Prelude.{◌≡◌, ℕ, ◌-◌, ◌/◌, Bool, List, [], Option, None, Some, is_some}
use Rattle.hibitset_atomic.specs.Seats.{IsOld as IsOldOf, IsKnown as KnownTo, weight_of as weight, reports_of as reports, loads_by as loads, exchanges_by as exchanges}
use Rattle.hibitset_atomic.specs.declared.shared.types.Seat.{Seat}
use Rattle.hibitset_atomic.specs.declared.shared.types.SharedBitSet.{SharedBitSet}
use Rattle.hibitset_c.specs.Shared.{set_of as set_in}
use Rattle.hibitset_c.specs.declared.seat_slot.SeatSlot.{SeatSlot}
use Rattle.hibitset_c.specs.declared.set_or_seat.SetOrSeat.{SetOrSeat}
use Rattle.hibitset_c.specs.declared.set_or_seat.SetOrSeat.TheVariants.{Alone, Seated, Sparse, Nothing}

abbrev pub HoldsAt : Option SetOrSeat → (SharedBitSet → Seat → Type 0) → Type 0
HoldsAt None P = ⊥
HoldsAt (Some (Alone set)) P = ⊥
HoldsAt (Some (Seated m)) P = P (set_in m.set) m.seat
HoldsAt (Some (Sparse set)) P = ⊥
HoldsAt (Some Nothing) P = ⊥

-- there is a seat, and this holds of its set and of it
abbrev pub Holds : SeatSlot → (SharedBitSet → Seat → Type 0) → Type 0
Holds h = HoldsAt h.handle.content

abbrev pub set_at : Option SetOrSeat → Option SharedBitSet
set_at None = None
set_at (Some (Alone set)) = None
set_at (Some (Seated m)) = Some (set_in m.set)
set_at (Some (Sparse set)) = None
set_at (Some Nothing) = None

-- the set that the seat came from
abbrev pub set_of : SeatSlot → Option SharedBitSet
set_of h = set_at h.handle.content

abbrev pub seat_at : Option SetOrSeat → Option Seat
seat_at None = None
seat_at (Some (Alone set)) = None
seat_at (Some (Seated m)) = Some m.seat
seat_at (Some (Sparse set)) = None
seat_at (Some Nothing) = None

abbrev pub seat_of : SeatSlot → Option Seat
seat_of h = seat_at h.handle.content

-- there is a seat
abbrev pub has_seat : SeatSlot → Bool
has_seat h = is_some h.handle.content

-- the index was a member when the set was shared
abbrev pub IsOld : SeatSlot → ℕ → Type 0
IsOld h i = Holds h (λ set seat. IsOldOf set i)

-- the seat has seen all four bits of the index set
abbrev pub IsKnown : SeatSlot → ℕ → Type 0
IsKnown h i = Holds h (λ set seat. KnownTo seat i)

abbrev pub weight_at : Option Seat → ℕ
weight_at None = 0
weight_at (Some seat) = weight seat

-- how many of the set's shares the seat has
abbrev pub weight_of : SeatSlot → ℕ
weight_of h = weight_at (seat_of h)

abbrev pub reports_at : Option Seat → List ℕ
reports_at None = []
reports_at (Some seat) = reports seat

-- the indices that the seat's own additions put in, the newest first
abbrev pub reports_of : SeatSlot → List ℕ
reports_of h = reports_at (seat_of h)

abbrev pub loads_at : Option Seat → ℕ
loads_at None = 0
loads_at (Some seat) = loads seat

-- how many words the seat has loaded, and how many it has exchanged
abbrev pub loads_by : SeatSlot → ℕ
loads_by h = loads_at (seat_of h)

abbrev pub exchanges_at : Option Seat → ℕ
exchanges_at None = 0
exchanges_at (Some seat) = exchanges seat

abbrev pub exchanges_by : SeatSlot → ℕ
exchanges_by h = exchanges_at (seat_of h)

-- It is of the same set, with the same weight, and knows what it knew.
pub record Keeps (old new : SeatSlot) : Type 0 where
  pub set : set_of new ≡ set_of old
  pub weight : weight_of new ≡ weight_of old
  pub known : (i : ℕ) → IsKnown old i → IsKnown new i

-- It is the same seat of the same set, or none still.
pub record IsSame (old new : SeatSlot) : Type 0 where
  pub set : set_of new ≡ set_of old
  pub seat : seat_of new ≡ seat_of old

-- Of one seat there are two. The first has the reports.
pub record AreHalves (old first second : SeatSlot) : Type 0 where
  pub sets : (set_of first ≡ set_of old) × (set_of second ≡ set_of old)
  pub weights : (weight_of first ≡ weight_of old - weight_of old / 2) × (weight_of second ≡ weight_of old / 2)
  pub reports : (reports_of first ≡ reports_of old) × (reports_of second ≡ [])
  pub known : (i : ℕ) → IsKnown old i → IsKnown first i × IsKnown second i
