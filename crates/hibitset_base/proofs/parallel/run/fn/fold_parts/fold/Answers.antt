use Rattle.hibitset_base.proofs.parallel.run.fn.fold_parts.fold.Goals as goal

pub returns : goal.returns
returns g c = (c.init.result, c.init.ensures, rw c.split_again.ensures at c.fold_walk.ensures)
