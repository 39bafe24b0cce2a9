use Rattle.std.proofs.Common.{◌≡◌, ◌++◌}
use Rattle.hibitset_base.specs.Splits.{items_of_second}
use Rattle.hibitset_base.specs.Walk.{items_left}
use Rattle.hibitset_tests.proofs.tests.splits.list_of.Given as goal

abbrev pub invariant-loop-index : goal.invariant-loop-index
invariant-loop-index g l = l.list.items ++ items_left (λ s. g.T.BitSetLike.holds s.now) l.index-iterator ≡ items_of_second g.T.BitSetLike.holds l.fn.part
