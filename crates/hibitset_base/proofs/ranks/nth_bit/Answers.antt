use Rattle.std.proofs.Common.{refl, sym, ◌∙◌, ap}
use Rattle.std.specs.Prelude.{slice_get}
use Rattle.hibitset_base.proofs.PlaceLemmas.{bits-none}
use Rattle.hibitset_base.proofs.RankLemmas.{at_first, at_later}
use Rattle.hibitset_base.proofs.ranks.nth_bit.Goals as goal

pub bits-init : goal.bits-init
bits-init c = refl

pub returns-then-left-eq0 : goal.returns-then-left-eq0
returns-then-left-eq0 c = at_first _ _ _ c.bits.left c.take_index-index.ensures.taken c.if-left-eq0.true ∙ c.bits.invariant

pub bits-preserved : goal.bits-preserved
bits-preserved c = at_later _ _ _ c.bits.left c.take_index-index.ensures.taken c.if-left-eq0.false ∙ c.bits.invariant

pub returns : goal.returns
returns c = sym (ap (λ xs. slice_get xs c.bits.left) (bits-none c.args.start c.bits.rest c.bits-test.false)) ∙ c.bits.invariant
