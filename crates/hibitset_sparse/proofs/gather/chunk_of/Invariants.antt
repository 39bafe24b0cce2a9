use Rattle.std.proofs.Common.{ℕ, ◌≡◌, ◌+◌, ◌*◌, ◌<◌}
use Rattle.hibitset_sparse.specs.PackedArray.{value_in}
use Rattle.hibitset_sparse.specs.Rank.{bit_is_set}
use Rattle.hibitset_sparse.proofs.AppendLemmas.{AreBeingMade}
use Rattle.hibitset_sparse.proofs.gather.chunk_of.Given as goal

abbrev pub invariant-groups : goal.invariant-groups
invariant-groups g l = AreBeingMade l.left (value_in l.groups) l.items.items
    (λ p w. (b : ℕ) → b < 64 → bit_is_set w b ≡ g.S.BitSetLike.holds l.fn.set (64 * (4096 * l.fn.c + p) + b))

abbrev pub decreases-groups : goal.decreases-groups
decreases-groups g l = l.left
