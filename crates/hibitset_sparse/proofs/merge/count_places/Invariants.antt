use Rattle.hibitset_sparse.proofs.merge.count_places.Given as goal

abbrev pub decreases-groups : goal.decreases-groups
decreases-groups l = l.left
