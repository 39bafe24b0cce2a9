use Rattle.std.proofs.Common.{refl}
use Rattle.hibitset_base.proofs.FoldLemmas.{folds_on}
use Rattle.hibitset_base.proofs.PlaceLemmas.{bits-none}
use Rattle.hibitset_base.proofs.bulk.fold.fold_subtree.Goals as goal

pub bits-preserved : goal.bits-preserved
bits-preserved g c =
    (c.bits.invariant.0, λ last h. c.bits.invariant.1 last (rw c.take_child-first.ensures.items (folds_on _ _ _ _ _ _ c.fold_word-so_far.ensures h)))

pub returns : goal.returns
returns g c =
    let none = bits-none c.args.start c.bits.rest c.bits-test.false in
    c.bits.invariant.1 c.bits.so_far (rw none refl)
