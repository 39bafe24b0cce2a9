use Rattle.std.proofs.Common.{◌≡◌, ℕ, length}
use Rattle.hibitset_base.specs.Extension.{AddsItemsBelow, LiesApart, place_after}
use Rattle.hibitset_base.proofs.build.extend_indices.Given as goal

abbrev pub invariant-loop-index : goal.invariant-loop-index
invariant-loop-index g l = (goal.iterator-loop-index g).can_next l.index-iterator
    × (goal.iterator-loop-index g).is_finite l.index-iterator
    × AddsItemsBelow g.T.FallibleInsert.RANGE (λ i. i) (g.T.BitSetLike.holds l.initial.set) (g.T.BitSetLike.holds l.set) l.yielded
    × (l.place ≡ place_after (length l.yielded))
    × ((j : ℕ) → g.T.FallibleInsert.needs_allocation l.set j → g.T.FallibleInsert.needs_allocation l.initial.set j)
    × ((j : ℕ) → g.T.FallibleInsert.needs_allocation l.initial.set j → LiesApart g.T.FallibleInsert.need_separate_room (g.T.BitSetLike.holds l.set) j → g.T.FallibleInsert.needs_allocation l.set j)
