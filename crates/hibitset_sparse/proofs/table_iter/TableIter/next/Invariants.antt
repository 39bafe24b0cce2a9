use Rattle.std.proofs.Common.{◌≡◌}
use Rattle.hibitset_sparse.specs.Walk.{places_left}
use Rattle.hibitset_sparse.proofs.table_iter.TableIter.next.Given as goal

-- only empty groups were passed
abbrev pub invariant-groups : goal.invariant-groups
invariant-groups g l = record {
  places : places_left l.self ≡ places_left l.fn.self;
  items : l.self.items ≡ l.fn.self.items;
}

abbrev pub decreases-groups : goal.decreases-groups
decreases-groups g l = l.self.root
