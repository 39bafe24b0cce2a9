use Rattle.std.proofs.Common.{ℕ, ◌<◌}
use Rattle.hibitset_store.specs.Capacity.{HasRoom}
use Rattle.hibitset_store.specs.declared.pages.TheConstants.{PAGE}
use Rattle.hibitset_store_tests.proofs.tests.callers.fill.Given as goal

-- each index of the first page has room
abbrev pub invariant-loop-id : goal.invariant-loop-id
invariant-loop-id l = (i : ℕ) → i < PAGE → HasRoom l.column i
