-- What a contract sees of a seat beside its set.
use Rattle.std.specs.Prelude.{◌≡◌, ◌⊎◌, ℕ, ◌-◌, ◌/◌, Bool, true, [], Contains}
use Rattle.hibitset_atomic.specs.AtomicBitSet.{has as atomic_has, AllBlocksReserved}
use Rattle.hibitset_atomic.specs.Seats.{IsOld, IsKnown, weight_of, reports_of, HasAllReports}
use Rattle.hibitset_atomic.specs.declared.shared.types.Seat.{Seat}
use Rattle.hibitset_atomic.specs.declared.shared.types.SharedBitSet.{SharedBitSet}
use Rattle.hibitset_atomic.specs.declared.shared.layout.TheConstants.{SHARES}
use Rattle.hibitset_c.specs.Shared.{set_of}
use Rattle.hibitset_c.specs.declared.seat_of_set.Divided.{Divided}
use Rattle.hibitset_c.specs.declared.seat_of_set.Divided.TheVariants.{Two, Single, NoMemory as NoMemoryToDivide}
use Rattle.hibitset_c.specs.declared.seat_of_set.SeatOfSet.{SeatOfSet}
use Rattle.hibitset_c.specs.declared.seat_of_set.Settled.{Settled}
use Rattle.hibitset_c.specs.declared.seat_of_set.Settled.TheVariants.{Alone, Shared as SharedStill, NoMemory as NoMemoryToSettle}

-- It is of the same set, with the same weight, and knows what it knew.
pub record Keeps (old new : SeatOfSet) : Type 0 where
  pub set : set_of new.set ≡ set_of old.set
  pub weight : weight_of new.seat ≡ weight_of old.seat
  pub known : (i : ℕ) → IsKnown old.seat i → IsKnown new.seat i

-- It is the same seat of the same set.
pub record IsSame (old new : SeatOfSet) : Type 0 where
  pub set : set_of new.set ≡ set_of old.set
  pub seat : new.seat ≡ old.seat

-- Two seats of one set were one, of which the first has the reports.
pub record AreHalves (old first second : SeatOfSet) : Type 0 where
  pub sets : (set_of first.set ≡ set_of old.set) × (set_of second.set ≡ set_of old.set)
  pub weights : (weight_of first.seat ≡ weight_of old.seat - weight_of old.seat / 2) × (weight_of second.seat ≡ weight_of old.seat / 2)
  pub reports : (reports_of first.seat ≡ reports_of old.seat) × (reports_of second.seat ≡ [])
  pub known : (i : ℕ) → IsKnown old.seat i → IsKnown first.seat i × IsKnown second.seat i

abbrev pub DividesTo : SeatOfSet → Divided → Type 0
DividesTo old (Two first second) = AreHalves old first second
DividesTo old (Single m) = (weight_of old.seat ≡ 1) × Keeps old m × (reports_of m.seat ≡ reports_of old.seat)
DividesTo old (NoMemoryToDivide m) = IsSame old m

-- What `settle` of hibitset_atomic says of the members, with this seat.
pub record EndsAs (set : SharedBitSet) (seat : Seat) (members : ℕ → Bool) : Type 0 where
  pub old : (i : ℕ) → IsOld set i → members i ≡ true
  pub known : (i : ℕ) → IsKnown seat i → members i ≡ true
  pub reported : (i : ℕ) → Contains (reports_of seat) i → members i ≡ true
  pub all : HasAllReports set seat members
  pub whole : weight_of seat ≡ SHARES → (i : ℕ) → members i ≡ true → IsOld set i ⊎ Contains (reports_of seat) i

abbrev pub SettlesTo : SeatOfSet → Settled → Type 0
SettlesTo old (Alone set) = EndsAs (set_of old.set) old.seat (atomic_has set) × AllBlocksReserved set
SettlesTo old (SharedStill m) = IsSame old m
SettlesTo old (NoMemoryToSettle m) = IsSame old m
