use Rattle.std.proofs.Common.{◌≡◌, ◌++◌}
use Rattle.hibitset_base.specs.Walk.{items_left}
use Rattle.hibitset_base.proofs.bulk.list.list_items.Given as goal

abbrev pub invariant-items : goal.invariant-items
invariant-items g l = l.list.items ++ items_left g.T.BitSetLike.holds l.item-iterator ≡ l.initial.list.items ++ items_left g.T.BitSetLike.holds l.initial.item-iterator
