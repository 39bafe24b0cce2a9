-- That a seat came from a set is a fact, so that a struct may keep it truncated.
use Rattle.std.proofs.Common.{◌≡◌, ℕ, List, subst, sym}
use Rattle.std.proofs.Math.Logic.{∥∥₁_elim, ∥∥₁_map}
use Rattle.std.proofs.Props.{props}
use Rattle.hibitset_atomic.specs.Lists.{Has}
use Rattle.hibitset_atomic.specs.Rule.{above, HoldsOnPath}
use Rattle.hibitset_atomic.specs.Seats.{BelongsTo}
use Rattle.hibitset_atomic.specs.declared.shared.types.Seat.{Seat}
use Rattle.hibitset_atomic.specs.declared.shared.types.SharedBitSet.{SharedBitSet}
use Rattle.hibitset_atomic.proofs.ListLemmas.{has_cases}

none_prop : IsProp ⊥
none_prop = Prim.hlevel props

has_merely : (xs : List ℕ) (x : ℕ) → ∥ Has xs x ∥₁ → Has xs x
has_merely xs x merely = elim (has_cases xs x) as (λ _. Has xs x) [ yes h ↦ h | no n ↦ absurd (∥∥₁_elim merely none_prop n) ]

pub came_of : (set : SharedBitSet) (seat : Seat) → ∥ BelongsTo set seat ∥₁ → BelongsTo set seat
unfolding BelongsTo
came_of set seat merely = (
  ∥∥₁_elim merely (Prim.hlevel props) (λ c. c.0),
  ∥∥₁_elim merely (Prim.hlevel props) (λ c. c.1),
  λ i has.
      let v = seat.pass.me.0 in
      let part : (mark : ℕ) → (HoldsOnPath (Has v.seen) i → Has v.seen mark) → Has v.seen mark = λ mark of. has_merely v.seen mark (∥∥₁_map merely (λ c. of (c.2 i has))) in
      (part i (λ w. w.0), part (above i) (λ w. w.1), part (above (above i)) (λ w. w.2), part (above (above (above i))) (λ w. w.3)),
)

pub came_at : (same set : SharedBitSet) (seat : Seat) → same ≡ set → ∥ BelongsTo set seat ∥₁ → BelongsTo same seat
came_at same set seat is merely = subst (λ s. BelongsTo s seat) (sym is) (came_of set seat merely)
