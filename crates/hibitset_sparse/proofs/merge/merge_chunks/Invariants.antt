use Rattle.std.proofs.Common.{◌*◌}
use Rattle.hibitset_sparse.specs.Chunk.{has_in}
use Rattle.hibitset_sparse.specs.Merge.{IsWordOf}
use Rattle.hibitset_sparse.specs.PackedArray.{value_in}
use Rattle.hibitset_sparse.proofs.AppendLemmas.{AreBeingMade}
use Rattle.hibitset_sparse.proofs.merge.merge_chunks.Given as goal

abbrev pub invariant-groups : goal.invariant-groups
invariant-groups g l = AreBeingMade l.left (value_in l.groups) l.items.items (λ p w. IsWordOf g.M.Merge.test (has_in l.fn.own) (has_in l.fn.other) (64 * p) w)

abbrev pub decreases-groups : goal.decreases-groups
decreases-groups g l = l.left
