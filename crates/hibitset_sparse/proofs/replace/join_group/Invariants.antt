use Rattle.std.proofs.Common.{◌+◌}
use Rattle.std.specs.Int.RustNames.{count_ones}
use Rattle.hibitset_sparse.specs.Table.{group_word}
use Rattle.hibitset_sparse.proofs.JoinLemmas.{AreBeingJoined}
use Rattle.hibitset_sparse.proofs.replace.join_group.Given as goal

abbrev pub invariant-places : goal.invariant-places
invariant-places l = AreBeingJoined l.q l.places (count_ones (group_word l.initial.first l.q) + count_ones (group_word l.initial.second l.q))
    l.initial.first l.initial.second l.initial.table l.first l.second l.table

abbrev pub decreases-places : goal.decreases-places
decreases-places l = l.places
