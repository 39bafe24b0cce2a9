use Rattle.std.proofs.Common.{◌≡◌, ℕ, ◌-◌, ◌<◌, ◌≤◌, get_or, length}
use Rattle.hibitset.proofs.layout.clear_range.Given as goal

abbrev pub invariant-loop-at : goal.invariant-loop-at
invariant-loop-at l = record {
  long : length l.words.items ≡ length l.initial.words.items;
  passed : l.fn.from ≤ l.at;
  inside : (k : ℕ) → l.fn.from ≤ k → k < l.at → get_or l.words.items k 0 ≡ 0;
  before : (k : ℕ) → k < l.fn.from → get_or l.words.items k 0 ≡ get_or l.initial.words.items k 0;
  after : (k : ℕ) → l.at ≤ k → get_or l.words.items k 0 ≡ get_or l.initial.words.items k 0;
  upto : (k : ℕ) → l.fn.from ≤ k → l.fn.to ≤ k → l.at ≤ k;
}

abbrev pub decreases-loop-at : goal.decreases-loop-at
decreases-loop-at l = l.to - l.at
