use Rattle.std.proofs.Common.{◌≡◌, ℕ, ◌+◌, ◌-◌, ◌*◌, ◌<◌, length, get_or, min}
use Rattle.hibitset.specs.Prelude.{members, has}
use Rattle.uses.proofs.results.histogram.Given as goal

-- the windows that are counted end where the next one begins
abbrev pub invariant-windows : goal.invariant-windows
invariant-windows l = record {
  start : l.start ≡ min (length l.counts.items * l.width) l.end;
  needed : (k : ℕ) → k < length l.counts.items → k * l.width < l.end;
  each : (k : ℕ) → k < length l.counts.items → get_or l.counts.items k 0 ≡ length (members (has l.found) (k * l.width) (min (k * l.width + l.width) l.end - k * l.width));
}

abbrev pub decreases-windows : goal.decreases-windows
decreases-windows l = l.end - l.start
