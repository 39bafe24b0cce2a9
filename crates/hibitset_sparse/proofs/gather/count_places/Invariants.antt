use Rattle.hibitset_sparse.proofs.gather.count_places.Given as goal

abbrev pub decreases-groups : goal.decreases-groups
decreases-groups g l = l.left
