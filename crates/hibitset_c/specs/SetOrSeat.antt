-- What a contract sees of what lies behind the handle of an atomic set, of a seat or of a sparse set.
use Rattle.std.specs.Prelude.{◌≡◌, ◌↔◌, ℕ, Bool, true, false, [], Option, None, Some}
use Rattle.hibitset_atomic.specs.AtomicBitSet.{has as atomic_has, AllBlocksReserved}
use Rattle.hibitset_atomic.specs.Seats.{IsOld, IsKnown, weight_of, reports_of}
use Rattle.hibitset_atomic.specs.declared.shared.types.Seat.{Seat}
use Rattle.hibitset_atomic.specs.declared.shared.types.SharedBitSet.{SharedBitSet}
use Rattle.hibitset_atomic.specs.declared.shared.layout.TheConstants.{SHARES}
use Rattle.hibitset_c.specs.SeatOfSet.{Keeps, IsSame, AreHalves, EndsAs}
use Rattle.hibitset_c.specs.Shared.{set_of}
use Rattle.hibitset_c.specs.declared.set_or_seat.SetOrSeat.{SetOrSeat}
use Rattle.hibitset_c.specs.declared.set_or_seat.SetOrSeat.TheVariants.{Alone, Seated, Sparse, Nothing}

-- it is a set held alone
abbrev pub is_alone : SetOrSeat → Bool
is_alone (Alone set) = true
is_alone (Seated m) = false
is_alone (Sparse set) = false
is_alone Nothing = false

-- it is a seat
abbrev pub is_seated : SetOrSeat → Bool
is_seated (Alone set) = false
is_seated (Seated m) = true
is_seated (Sparse set) = false
is_seated Nothing = false

-- The seat is the first one of its set: it has all shares, no reports, and knows nothing. The old indices are those
-- members.
pub record IsOpening (members : ℕ → Bool) (set : SharedBitSet) (seat : Seat) : Type 0 where
  pub old : (i : ℕ) → (members i ≡ true) ↔ IsOld set i
  pub weight : weight_of seat ≡ SHARES
  pub reports : reports_of seat ≡ []
  pub known : (i : ℕ) → ¬ IsKnown seat i

-- a set held alone was shared
abbrev pub Opens : SetOrSeat → SetOrSeat → Type 0
Opens (Alone set) (Seated m) = IsOpening (atomic_has set) (set_of m.set) m.seat
Opens (Alone set) (Alone other) = ⊥
Opens (Alone set) (Sparse other) = ⊥
Opens (Alone set) Nothing = ⊥
Opens (Seated m) new = ⊥
Opens (Sparse set) new = ⊥
Opens Nothing new = ⊥

-- a set held alone lies there
abbrev pub is_alone_at : Option SetOrSeat → Bool
is_alone_at None = false
is_alone_at (Some content) = is_alone content

-- a seat lies there
abbrev pub is_seated_at : Option SetOrSeat → Bool
is_seated_at None = false
is_seated_at (Some content) = is_seated content

-- it is a sparse set
abbrev pub is_sparse : SetOrSeat → Bool
is_sparse (Alone set) = false
is_sparse (Seated m) = false
is_sparse (Sparse set) = true
is_sparse Nothing = false

-- a sparse set lies there
abbrev pub is_sparse_at : Option SetOrSeat → Bool
is_sparse_at None = false
is_sparse_at (Some content) = is_sparse content

-- a seat was divided
abbrev pub Halves : SetOrSeat → SetOrSeat → SetOrSeat → Type 0
Halves (Seated m) (Seated first) (Seated second) = AreHalves m first second
Halves (Seated m) (Seated first) (Alone set) = ⊥
Halves (Seated m) (Seated first) (Sparse set) = ⊥
Halves (Seated m) (Seated first) Nothing = ⊥
Halves (Seated m) (Alone set) second = ⊥
Halves (Seated m) (Sparse set) second = ⊥
Halves (Seated m) Nothing second = ⊥
Halves (Alone set) first second = ⊥
Halves (Sparse set) first second = ⊥
Halves Nothing first second = ⊥

-- it is a seat with one share
abbrev pub HasOneShare : SetOrSeat → Type 0
HasOneShare (Seated m) = weight_of m.seat ≡ 1
HasOneShare (Alone set) = ⊥
HasOneShare (Sparse set) = ⊥
HasOneShare Nothing = ⊥

-- a seat has its set, its weight and its reports, and knows what it knew
abbrev pub KeepsAll : SetOrSeat → SetOrSeat → Type 0
KeepsAll (Seated m) (Seated n) = Keeps m n × (reports_of n.seat ≡ reports_of m.seat)
KeepsAll (Seated m) (Alone set) = ⊥
KeepsAll (Seated m) (Sparse set) = ⊥
KeepsAll (Seated m) Nothing = ⊥
KeepsAll (Alone set) new = ⊥
KeepsAll (Sparse set) new = ⊥
KeepsAll Nothing new = ⊥

-- it is the same seat of the same set
abbrev pub IsSameSeat : SetOrSeat → SetOrSeat → Type 0
IsSameSeat (Seated m) (Seated n) = IsSame m n
IsSameSeat (Seated m) (Alone set) = ⊥
IsSameSeat (Seated m) (Sparse set) = ⊥
IsSameSeat (Seated m) Nothing = ⊥
IsSameSeat (Alone set) new = ⊥
IsSameSeat (Sparse set) new = ⊥
IsSameSeat Nothing new = ⊥

-- a shared set is held alone again
abbrev pub Settles : SetOrSeat → SetOrSeat → Type 0
Settles (Seated m) (Alone set) = EndsAs (set_of m.set) m.seat (atomic_has set) × AllBlocksReserved set
Settles (Seated m) (Seated n) = ⊥
Settles (Seated m) (Sparse set) = ⊥
Settles (Seated m) Nothing = ⊥
Settles (Alone set) new = ⊥
Settles (Sparse set) new = ⊥
Settles Nothing new = ⊥
