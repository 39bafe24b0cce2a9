use Rattle.std.proofs.Common.{◌≡◌, ℕ, ◌==◌, ◌&&◌, not, ◌++◌}
use Rattle.std.specs.List.{list_any}
use Rattle.hibitset_base.specs.Members.{members_below}
use Rattle.hibitset_base.specs.Drain.{items_to_drain, drained_set, lender}
use Rattle.hibitset_base.specs.declared.util.TheConstants.{MAX_EID}
use Rattle.hibitset.specs.BitSet.{has, slice_len}
use Rattle.hibitset_tests.proofs.tests.drains.take_all.Given as goal

abbrev pub invariant-loop-index : goal.invariant-loop-index
invariant-loop-index l = record {
  lent : lender l.index-iterator ≡ lender l.initial.index-iterator;
  items : l.items.items ++ items_to_drain has l.index-iterator ≡ members_below MAX_EID (has l.fn.set);
  room : slice_len (drained_set l.index-iterator) 0 ≡ slice_len l.fn.set 0;
  gone : (i : ℕ) → has (drained_set l.index-iterator) i ≡ (has l.fn.set i && not (list_any (λ x. i == x) l.items.items));
}
