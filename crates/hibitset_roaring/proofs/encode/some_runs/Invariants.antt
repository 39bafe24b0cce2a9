use Rattle.std.proofs.Common.{◌≡◌, ℕ, ◌<◌, false, get_or}
use Rattle.hibitset_roaring.specs.Runs.{are_runs_shorter}
use Rattle.hibitset_roaring.proofs.encode.some_runs.Given as goal

-- no container before this one is runs
abbrev pub invariant-containers : goal.invariant-containers
invariant-containers l = (i : ℕ) → i < l.k → are_runs_shorter (get_or l.runs i 0) (get_or l.counts i 0) ≡ false
