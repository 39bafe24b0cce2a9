use Rattle.std.proofs.Common.{◌≡◌, ℕ, ◌-◌, ◌≤◌, ◌==◌, ◌||◌, true, Some}
use Rattle.hibitset_atomic.specs.History.{call_of, has_passed}
use Rattle.hibitset_atomic.specs.Worlds.{old_of, past_of}
use Rattle.uses_tests.proofs.TurnLemmas.{call_on}
use Rattle.uses_tests.proofs.tests.turns.add.Given as goal

abbrev pub decreases-layers : goal.decreases-layers
decreases-layers l = l.left

-- the call has so many layers left, and all else is as it was but for its index
abbrev pub invariant-layers : goal.invariant-layers
invariant-layers l = record {
  small : l.left ≤ 3;
  own : call_of (past_of l.world) l.call ≡ Some (call_on l.id (4 - l.left));
  others : (c : ℕ) → (l.call ≡ c → ⊥) → call_of (past_of l.world) c ≡ call_of (past_of l.fn.world) c;
  put : (i : ℕ) → has_passed (past_of l.world) 0 i ≡ (has_passed (past_of l.fn.world) 0 i || i == l.id);
  last : l.left ≡ 0 → has_passed (past_of l.world) 3 l.id ≡ true;
  old : old_of l.world ≡ old_of l.fn.world;
}
