-- The seats that one seat is divided among.
use Rattle.std.specs.Prelude.{ℕ, ◌/◌, ◌≤◌}
use Rattle.std.specs.Int.{div_ceil}
use Rattle.hibitset_atomic.specs.declared.shared.types.Seat.{Seat}
use Rattle.hibitset_atomic.specs.Seats.{IsKnown, weight_of}

-- the seat's weight is the whole weight by the number of seats, rounded down or up
abbrev pub IsEvenShare : ℕ → ℕ → Seat → Type 0
IsEvenShare whole n s = (whole / n ≤ weight_of s) × (weight_of s ≤ div_ceil whole n)

-- the seat knows what the first one knows
abbrev pub KnowsAllOf : Seat → Seat → Type 0
KnowsAllOf first s = (i : ℕ) → IsKnown first i → IsKnown s i
