use Rattle.std.proofs.Common.{◌≡◌, refl, arith}
use Rattle.std.proofs.lemmas.Fn.{FoldsTo-push}
use Rattle.hibitset_base.proofs.WriteLemmas.{one_more}
use Rattle.hibitset_base.proofs.bulk.fold.fold_all.Goals as goal

pub bits-init : goal.bits-init
unfolding Rattle.hibitset_base.specs.Members.members
bits-init g c = (c.requires.callable, refl)

pub bits-preserved : goal.bits-preserved
bits-preserved g c = (c.bits.invariant.0, rw (one_more c.args.start c.bits.bit (omega arith)) (FoldsTo-push _ _ _ _ _ _ c.bits.invariant.1 c.step-so_far.ensures))

pub returns : goal.returns
returns g c = let all : c.bits.bit ≡ 64 = omega arith in rw all at c.bits.invariant.1
