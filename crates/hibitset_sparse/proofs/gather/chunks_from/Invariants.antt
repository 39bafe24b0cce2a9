use Rattle.hibitset_sparse.specs.Table.{value_at}
use Rattle.hibitset_sparse.proofs.ChunksOfLemmas.{AreGroupsDoneBut}
use Rattle.hibitset_sparse.proofs.gather.chunks_from.Given as goal

abbrev pub invariant-groups : goal.invariant-groups
invariant-groups g l = AreGroupsDoneBut (g.S.ChunkSource.holds l.fn.source) (g.T.BitSetLike.holds l.fn.touched) l.groups (value_at l.chunks)

abbrev pub decreases-groups : goal.decreases-groups
decreases-groups g l = l.groups
