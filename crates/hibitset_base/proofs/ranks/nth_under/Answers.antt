use Rattle.std.proofs.Common.{refl, sym, ◌∙◌, ap}
use Rattle.std.specs.Prelude.{slice_get}
use Rattle.hibitset_base.specs.Places.{places_in, bits_from, items_of}
use Rattle.hibitset_base.proofs.OneCountLemmas.{bits-count}
use Rattle.hibitset_base.proofs.PlaceLemmas.{bits-none}
use Rattle.hibitset_base.proofs.RankLemmas.{in_front, in_rest}
use Rattle.hibitset_base.proofs.ranks.nth_under.Goals as goal

pub bits-init : goal.bits-init
bits-init g c = refl

pub returns-then-left-count : goal.returns-then-left-count
returns-then-left-count g c =
    let taken = c.take_child-first in
    c.nth_bit.ensures
    ∙ (in_front _ (bits_from taken.result.0 taken.result.1) _ _ c.bits.left taken.ensures.items (sym (bits-count taken.result.0 taken.result.1 taken.ensures.fits)) c.if-left-count.true
    ∙ c.bits.invariant)

pub bits-preserved : goal.bits-preserved
bits-preserved g c =
    let taken = c.take_child-first in
    in_rest _ (bits_from taken.result.0 taken.result.1) _ _ c.bits.left taken.ensures.items (sym (bits-count taken.result.0 taken.result.1 taken.ensures.fits)) c.if-left-count.false
    ∙ c.bits.invariant

pub returns : goal.returns
returns g c =
    sym (ap (λ xs. slice_get (items_of (g.T.BitSetLike.holds c.args.set.now) (places_in 1 xs)) c.bits.left) (bits-none c.args.start c.bits.rest c.bits-test.false))
    ∙ c.bits.invariant
