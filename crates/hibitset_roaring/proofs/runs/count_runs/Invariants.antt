use Rattle.std.proofs.Common.{◌≡◌, ◌-◌, ◌<◌, ◌≤◌, true, length}
use Rattle.hibitset_base.specs.Members.{members}
use Rattle.hibitset.specs.WordBits.{stands_in}
use Rattle.hibitset_roaring.specs.Runs.{members_under, begins_run}
use Rattle.hibitset_roaring.proofs.runs.count_runs.Given as goal

-- the runs that begin before this number are counted
abbrev pub invariant-starts : goal.invariant-starts
invariant-starts l = record {
  within : l.start ≤ 65536;
  begins : l.start < 65536 → begins_run (members_under (stands_in l.words) l.key) l.start ≡ true;
  count : l.runs ≡ length (members (begins_run (members_under (stands_in l.words) l.key)) 0 l.start);
  few : l.runs ≤ l.start;
}

abbrev pub decreases-starts : goal.decreases-starts
decreases-starts l = 65536 - l.start
