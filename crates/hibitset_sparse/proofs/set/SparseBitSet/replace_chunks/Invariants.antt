use Rattle.std.proofs.Common.{length}
use Rattle.hibitset_sparse.specs.SparseBitSet.{has}
use Rattle.hibitset_sparse.proofs.ReplaceLemmas.{AreBeingPut}
use Rattle.hibitset_sparse.proofs.set.SparseBitSet.replace_chunks.Given as goal

abbrev pub invariant-chunks : goal.invariant-chunks
invariant-chunks l = record { put : AreBeingPut l.fn.chunks l.left l.self.chunks (has l.fn.self) (has l.self) }

abbrev pub decreases-chunks : goal.decreases-chunks
decreases-chunks l = length l.left.items.items
