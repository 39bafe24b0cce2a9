use Rattle.std.proofs.Common.{◌≡◌, ◌+◌, ◌-◌, ◌*◌, ◌/◌, ◌≤◌, [], ◌∷◌, ◌++◌, length, map, replicate, All, vec_capacity}
use Rattle.std.specs.Int.{div_ceil}
use Rattle.std.specs.List.{sum_by}
use Rattle.hibitset_atomic.specs.Seats.{BelongsTo, weight_of, reports_of, loads_by, exchanges_by}
use Rattle.hibitset_atomic.specs.Division.{IsEvenShare, KnowsAllOf}
use Rattle.hibitset_atomic.proofs.shared.types.SharedBitSet.give_seats.Given as goal

-- some seats are given, and what is left is enough for the others
abbrev pub invariant-seats : goal.invariant-seats
invariant-seats l = record {
  number : length l.seats.items ≡ l.given;
  room : l.n ≤ vec_capacity l.seats;
  came : All (BelongsTo l.self) l.seats.items × BelongsTo l.self l.rest;
  even : All (IsEvenShare (weight_of l.fn.seat) l.n) l.seats.items;
  at_least : (l.n - l.given) * (weight_of l.fn.seat / l.n) ≤ weight_of l.rest;
  at_most : weight_of l.rest ≤ (l.n - l.given) * div_ceil (weight_of l.fn.seat) l.n;
  enough : l.n - l.given ≤ weight_of l.rest;
  shares : sum_by weight_of l.seats.items + weight_of l.rest ≡ weight_of l.fn.seat;
  reports : map reports_of l.seats.items ++ reports_of l.rest ∷ [] ≡ reports_of l.fn.seat ∷ replicate l.given [];
  known : All (KnowsAllOf l.fn.seat) l.seats.items × KnowsAllOf l.fn.seat l.rest;
  loads : All (λ s. loads_by s ≤ loads_by l.fn.seat + 30) l.seats.items × (loads_by l.rest ≤ loads_by l.fn.seat + 15);
  exchanges : map exchanges_by l.seats.items ++ exchanges_by l.rest ∷ [] ≡ exchanges_by l.fn.seat ∷ replicate l.given 0;
}
