use Rattle.std.proofs.Common.{◌≡◌, ℕ, ◌+◌, ◌-◌, ◌*◌, ◌<◌, ◌≤◌, true}
use Rattle.hibitset.specs.WordBits.{stands_in}
use Rattle.hibitset_roaring.proofs.runs.next_gap.Given as goal

-- all numbers before this one are members
abbrev pub invariant-numbers : goal.invariant-numbers
invariant-numbers l = record {
  order : l.from ≤ l.number;
  within : l.number ≤ 65536;
  all : (v : ℕ) → l.from ≤ v → v < l.number → stands_in l.words (65536 * l.key + v) ≡ true;
}

abbrev pub decreases-numbers : goal.decreases-numbers
decreases-numbers l = 65536 - l.number
