use Rattle.std.proofs.Common.{List, ℕ, subst}
use Rattle.std.specs.List.{FoldsTo}
use Rattle.hibitset_base.proofs.FoldLemmas.{one-piece}
use Rattle.hibitset_base.proofs.parallel.par_iter.BitParIter.fold.Goals as goal

pub returns-then-is_sparse : goal.returns-then-is_sparse
returns-then-is_sparse g c = one-piece _ _ _ _ _ (c.init.result, c.init.ensures, c.fold_members.ensures)

pub returns : goal.returns
returns g c =
    let P : List ℕ → Type 0 = λ xs. FoldsTo (λ a x b. goal.F-post g c.args.step a x b) c.init-2.result xs c.fold_walk.result in
    one-piece _ _ _ _ _ (c.init-2.result, c.init-2.ensures, subst P c.iter-2.ensures.items c.fold_walk.ensures)
