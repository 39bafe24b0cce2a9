use Rattle.std.proofs.Common.{◌≡◌, ℕ, ◌+◌, ◌-◌, ◌*◌, ◌<◌, ◌≤◌, false}
use Rattle.hibitset.specs.WordBits.{stands_in}
use Rattle.hibitset_roaring.proofs.runs.next_member.Given as goal

-- no number before this one is a member
abbrev pub invariant-numbers : goal.invariant-numbers
invariant-numbers l = record {
  order : l.from ≤ l.number;
  within : l.number ≤ 65536;
  none : (v : ℕ) → l.from ≤ v → v < l.number → stands_in l.words (65536 * l.key + v) ≡ false;
}

abbrev pub decreases-numbers : goal.decreases-numbers
decreases-numbers l = 65536 - l.number
