use Rattle.std.proofs.Common.{ℕ, ◌-◌, ◌≤◌}
use Rattle.hibitset.specs.Prelude.{MAX_EID, has}
use Rattle.uses.specs.Ids.{IsFreeRun}
use Rattle.uses.proofs.ids.Ids.first_run.Given as goal

-- no free run begins before the place that the search has come to
abbrev pub invariant-loop-start : goal.invariant-loop-start
invariant-loop-start l = record {
  within : l.from ≤ MAX_EID;
  first : (other : ℕ) → IsFreeRun (has l.self.used) l.count other → l.from ≤ other;
}

abbrev pub decreases-loop-start : goal.decreases-loop-start
decreases-loop-start l = MAX_EID - l.from
