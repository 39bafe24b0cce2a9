use Rattle.std.proofs.Common.{◌≡◌, ℕ, ◌+◌, ◌-◌, ◌*◌, true, [], Some}
use Rattle.hibitset_atomic.specs.History.{Walk}
use Rattle.hibitset_atomic.specs.HistoryFacts.{finished_before}
use Rattle.hibitset_atomic.specs.Worlds.{old_of, past_of, walk_in}
use Rattle.uses_tests.specs.Turns.{is_done, reads_of}
use Rattle.uses_tests.proofs.tests.turns.read_all.Given as goal

-- no walk reads as many words
abbrev pub decreases-words : goal.decreases-words
decreases-words l = 3 * 16777216 + 4 - reads_of l.world l.walk

-- there is the walk, which has no word left where it is done, and what was done before it is still known to be
abbrev pub invariant-words : goal.invariant-words
invariant-words l = record {
  there : (v : Walk) × (walk_in l.world l.walk ≡ Some v) × (l.done ≡ true → v.left ≡ []);
  before : (i : ℕ) → is_done l.fn.world i ≡ true → finished_before 4 (old_of l.world) (past_of l.world) l.walk i ≡ true;
}
