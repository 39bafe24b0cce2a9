use Rattle.std.proofs.Common.{◌≡◌, ◌≤◌, ◌++◌, length, vec_capacity}
use Rattle.hibitset.specs.Prelude.{members_below, items_to_drain, drained_set, lender, MAX_EID, has}
use Rattle.uses.specs.Pages.{is_dirty}
use Rattle.uses.proofs.pages.Pages.flush.Given as goal

abbrev pub invariant-loop-page : goal.invariant-loop-page
invariant-loop-page l = record {
  lent : lender l.page-iterator ≡ lender l.initial.page-iterator;
  moved : l.out.items ++ items_to_drain has l.page-iterator ≡ l.fn.out.items ++ members_below MAX_EID (is_dirty l.fn.self);
  left : items_to_drain has l.page-iterator ≡ members_below MAX_EID (has (drained_set l.page-iterator));
  room : length (l.out.items ++ items_to_drain has l.page-iterator) ≤ vec_capacity l.out;
}
