use Rattle.std.proofs.Common.{◌-◌, ◌≤◌, length}
use Rattle.hibitset.proofs.BitTableLemmas.{ToldUpto}
use Rattle.hibitset.proofs.summaries.summary_of.Given as goal

abbrev pub invariant-loop-at : goal.invariant-loop-at
invariant-loop-at l = record {
  upto : l.at ≤ length l.words;
  told : ToldUpto l.words l.summary l.at;
}

abbrev pub decreases-loop-at : goal.decreases-loop-at
decreases-loop-at l = length l.words - l.at
