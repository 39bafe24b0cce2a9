use Rattle.std.proofs.Common.{◌*◌, ◌≤◌}
use Rattle.hibitset_store.specs.Capacity.{list_len, made_pages}
use Rattle.hibitset_store.specs.declared.pages.TheConstants.{PAGE, MAX_SLOTS_PER_MADE_SLOT}
use Rattle.hibitset_store_tests.proofs.tests.callers.spread.Given as goal

-- there are no more slots than the pages made allow
abbrev pub invariant-loop-id : goal.invariant-loop-id
invariant-loop-id l = list_len l.column ≤ MAX_SLOTS_PER_MADE_SLOT * (PAGE * made_pages l.column)
