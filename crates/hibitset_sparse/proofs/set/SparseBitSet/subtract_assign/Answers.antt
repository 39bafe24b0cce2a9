use Rattle.std.proofs.Common.{not}
use Rattle.hibitset_sparse.proofs.KeptLemmas.{set-kept}
use Rattle.hibitset_sparse.proofs.set.SparseBitSet.subtract_assign.Goals as goal

pub retain_chunks-requires : goal.retain_chunks-requires
retain_chunks-requires g c = record { full = λ k chunk left is. is.full }

pub returns : goal.returns
returns g c = set-kept (λ j. not (g.B.BitSetLike.holds c.args.other.now j)) c.args.self.now c.retain_chunks.new.self c.retain_chunks.ensures
