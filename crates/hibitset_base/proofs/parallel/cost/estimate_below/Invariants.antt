use Rattle.hibitset_base.proofs.parallel.cost.estimate_below.Given as goal

abbrev pub decreases-bits : goal.decreases-bits
decreases-bits g l = l.left
