use Rattle.std.proofs.Common.{◌≡◌, ℕ, ◌+◌, ◌*◌, ◌<◌, ◌≤◌}
use Rattle.hibitset_roaring.specs.Numbers.{any_below}
use Rattle.hibitset_roaring.specs.Format.{run_first, run_last, run_total, in_run}
use Rattle.hibitset_roaring.specs.Words.{Adds}
use Rattle.hibitset_roaring.proofs.decode_container.read_runs.Given as goal

-- the runs so far lie apart, and their numbers are put in
abbrev pub invariant-runs : goal.invariant-runs
invariant-runs l = record {
  total : l.total ≡ run_total l.bytes l.at l.r;
  few : l.total ≤ 65536 * l.r;
  inside : (i : ℕ) → i < l.r → run_last l.bytes l.at i < 65536;
  apart : (i : ℕ) → i + 1 < l.r → run_last l.bytes l.at i + 1 < run_first l.bytes l.at (i + 1);
  none : l.r ≡ 0 → l.next ≡ 0;
  last : (i : ℕ) → i + 1 ≡ l.r → run_last l.bytes l.at i + 2 ≡ l.next;
  members : Adds l.key (λ low. any_below l.r (λ i. in_run l.bytes l.at i low)) l.fn.words l.words;
}
