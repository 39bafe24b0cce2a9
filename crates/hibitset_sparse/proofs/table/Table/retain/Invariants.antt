use Rattle.hibitset_sparse.proofs.RetainLemmas.{AreGroupsRetained}
use Rattle.hibitset_sparse.proofs.table.Table.retain.Given as goal

abbrev pub invariant-groups : goal.invariant-groups
invariant-groups g l = AreGroupsRetained (g.G.GroupChange.leaves l.fn.by) l.fn.self.groups.word l.fn.self.groups.items.items l.fn.self.items.items
    l.left l.root l.at l.to l.list.items l.items.items

abbrev pub decreases-groups : goal.decreases-groups
decreases-groups g l = l.left
