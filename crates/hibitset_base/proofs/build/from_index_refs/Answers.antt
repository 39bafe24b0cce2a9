use Rattle.std.proofs.Common.{◌∙◌}
use Rattle.hibitset_base.proofs.ErrorLemmas.{IfErr-handed_on, or_true, refused_apart}
use Rattle.hibitset_base.proofs.build.from_index_refs.Goals as goal

pub returns-in_err-extend_index_refs-clause-stops : goal.returns-in_err-extend_index_refs-clause-stops
returns-in_err-extend_index_refs-clause-stops g c =
    let made = c.extend_index_refs.new.set in
    let stops = c.in_err-extend_index_refs.ensures.stops in
    let apart = refused_apart g.T.FallibleInsert.RANGE (λ i. i.now) g.T.FallibleInsert.need_separate_room (g.T.FallibleInsert.needs_allocation made) (g.T.BitSetLike.holds made) stops.1 (λ i some. stops.6.members i ∙ or_true _ _ some) (g.met.T.FallibleInsert.apart made) c.in_err-extend_index_refs.field-0.0 _ _ stops.7 in
    IfErr-handed_on _ c.from_residual.result c.in_err-extend_index_refs.field-0.0 c.from_residual.ensures.1 (stops.0, stops.1, stops.2, stops.3, stops.4, stops.5, stops.6.in_range, apart)
