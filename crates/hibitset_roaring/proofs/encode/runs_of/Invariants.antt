use Rattle.std.proofs.Common.{◌≡◌, ℕ, ◌<◌, get_or, length}
use Rattle.hibitset_roaring.specs.Streams.{IsRunCount}
use Rattle.hibitset_roaring.proofs.encode.runs_of.Given as goal

-- the runs of the first k containers are counted
abbrev pub invariant-containers : goal.invariant-containers
invariant-containers g l = record {
  same : length l.runs.items ≡ l.k;
  each : (i : ℕ) → i < l.k → IsRunCount (g.S.ContainerSource.words l.source) (get_or l.keys i 0) (get_or l.counts i 0) (get_or l.runs.items i 0);
}
