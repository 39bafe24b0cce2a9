use Rattle.std.proofs.Common.{◌≡◌}
use Rattle.std.specs.List.{AllZip}
use Rattle.std.specs.Vec.{vec_capacity}
use Rattle.hibitset_sparse.specs.Copy.{IsSameChunk}
use Rattle.hibitset_sparse.proofs.shrink.shrink_each.Given as goal

abbrev pub invariant-chunks : goal.invariant-chunks
invariant-chunks l = record {
  same : AllZip IsSameChunk l.initial.chunks.items l.chunks.items;
  capacity : vec_capacity l.chunks ≡ vec_capacity l.initial.chunks;
}
