use Rattle.std.proofs.Common.{◌≡◌, ℕ, ◌+◌, ◌-◌, ◌*◌, ◌<◌, ◌≤◌, ◌&&◌, true, length}
use Rattle.std.specs.Prelude.{nat_lt}
use Rattle.hibitset_base.specs.Members.{members}
use Rattle.hibitset.specs.WordBits.{stands_in}
use Rattle.hibitset_roaring.specs.Numbers.{any_below}
use Rattle.hibitset_roaring.specs.Format.{run_count, run_first, run_last, in_run}
use Rattle.hibitset_roaring.specs.Streams.{SameBefore}
use Rattle.hibitset_roaring.specs.Runs.{members_under, begins_run}
use Rattle.hibitset_roaring.proofs.runs.write_runs.Given as goal

-- the runs that begin before this number are written
abbrev pub invariant-starts : goal.invariant-starts
invariant-starts l = record {
  within : l.start ≤ 65536;
  begins : l.start < 65536 → begins_run (members_under (stands_in l.words) l.key) l.start ≡ true;
  count : l.done ≡ length (members (begins_run (members_under (stands_in l.words) l.key)) 0 l.start);
  left : l.start < 65536 → l.done < l.runs;
  before : SameBefore l.at l.fn.out l.out;
  number : run_count l.out l.at ≡ l.runs;
  inside : (i : ℕ) → i < l.done → run_last l.out l.at i < 65536;
  near : (i : ℕ) → i < l.done → l.start < 65536 → run_last l.out l.at i + 1 < l.start;
  apart : (i : ℕ) → i + 1 < l.done → run_last l.out l.at i + 1 < run_first l.out l.at (i + 1);
  members : (v : ℕ) → v < 65536 → any_below l.done (λ i. in_run l.out l.at i v) ≡ (nat_lt v l.start && stands_in l.words (65536 * l.key + v));
}

abbrev pub decreases-starts : goal.decreases-starts
decreases-starts l = 65536 - l.start
