use Rattle.hibitset_sparse.proofs.KeptLemmas.{set-kept}
use Rattle.hibitset_sparse.proofs.assign.SparseBitSetBitAndAssignRef.bitand_assign.Goals as goal

pub retain_chunks-requires : goal.retain_chunks-requires
retain_chunks-requires g c = record { full = λ k chunk left is. is.full }

pub returns : goal.returns
returns g c = record { after = set-kept (g.B.BitSetLike.holds c.args.other.now) c.args.self.now c.retain_chunks.new.self c.retain_chunks.ensures }
