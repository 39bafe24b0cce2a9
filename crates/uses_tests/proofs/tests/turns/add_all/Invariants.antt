use Rattle.std.proofs.Common.{◌≡◌, ◌⊎◌, ◌↔◌, ℕ, true, take, Contains}
use Rattle.hibitset_atomic.specs.AtomicBitSet.{has}
use Rattle.hibitset_atomic.specs.Worlds.{old_of, IsResting}
use Rattle.uses_tests.specs.Turns.{is_in}
use Rattle.uses_tests.proofs.tests.turns.add_all.Given as goal

-- the world is at rest, and has the old indices and those of the list so far
abbrev pub invariant-loop-id : goal.invariant-loop-id
invariant-loop-id l = record {
  old : old_of l.world ≡ has l.fn.set;
  rest : IsResting l.world;
  members : (i : ℕ) → (is_in l.world i ≡ true) ↔ ((has l.fn.set i ≡ true) ⊎ Contains (take l.id-index l.ids) i);
}
