use Rattle.std.proofs.Common.{◌+◌, ◌*◌}
use Rattle.hibitset_sparse.proofs.RetainLemmas.{AreBeingRetained}
use Rattle.hibitset_sparse.proofs.retain.retain_group.Given as goal

abbrev pub invariant-places : goal.invariant-places
invariant-places g l = AreBeingRetained (λ b. g.C.Change.leaves l.fn.by (64 * l.fn.q + b)) l.fn.group.word l.fn.group.start l.fn.to l.initial.items.items
    l.left l.kept l.at l.items.items

abbrev pub decreases-places : goal.decreases-places
decreases-places g l = l.left
