use Rattle.hibitset_sparse.specs.SparseBitSet.{has}
use Rattle.hibitset_sparse.proofs.KeptLemmas.{set-kept}
use Rattle.hibitset_sparse.proofs.set.SparseBitSet.intersect_with.Goals as goal

pub retain_chunks-requires : goal.retain_chunks-requires
retain_chunks-requires c = record { full = λ k chunk left is. is.full }

pub returns : goal.returns
returns c = set-kept (has c.args.other.now) c.args.self.now c.retain_chunks.new.self c.retain_chunks.ensures
