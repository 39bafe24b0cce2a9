use Rattle.std.proofs.Common.{◌≡◌, ℕ, ◌<◌, get_or}
use Rattle.hibitset_roaring.specs.Streams.{SameBefore}
use Rattle.hibitset_roaring.specs.Streams.{start_from, IsKindWritten}
use Rattle.hibitset_roaring.proofs.encode.write_containers.Given as goal

-- the first k containers are written
abbrev pub invariant-containers : goal.invariant-containers
invariant-containers g l = record {
  at_is : l.at ≡ start_from l.first l.counts l.runs l.k;
  before : SameBefore l.first l.fn.out l.out;
  written : (i : ℕ) → i < l.k → IsKindWritten (g.S.ContainerSource.words l.source) l.out (start_from l.first l.counts l.runs i) (get_or l.keys i 0) (get_or l.counts i 0) (get_or l.runs i 0);
}
