use Rattle.std.proofs.Common.{List, ℕ, subst}
use Rattle.hibitset_base.specs.Folds.{FoldsOfParts}
use Rattle.hibitset_base.proofs.FoldLemmas.{no-values}
use Rattle.hibitset_base.proofs.parallel.run.fold.Goals as goal

pub returns : goal.returns
returns g c =
    let P : List ℕ → Type 0 = λ xs. FoldsOfParts (goal.I-post g c.args.init) (λ a x b. goal.F-post g c.args.step a x b) xs c.in_ok-folds.folds.items in
    no-values (goal.I-post g c.args.init) (λ a x b. goal.F-post g c.args.step a x b) _ _ _ _
    (subst P c.in_ok-parts.ensures (rw c.as_slice.ensures.value at c.in_ok-folds.ensures)) c.in-None.ensures c.init.ensures
