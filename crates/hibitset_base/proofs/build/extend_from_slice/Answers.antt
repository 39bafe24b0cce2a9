use Rattle.std.proofs.lemmas.Result.{IfOk-weaker, IfErr-weaker}
use Rattle.hibitset_base.proofs.SliceLemmas.{takes_all, stopped_in}
use Rattle.hibitset_base.proofs.build.extend_from_slice.Goals as goal

pub returns-clause-added : goal.returns-clause-added
returns-clause-added g c = IfOk-weaker c.extend_index_refs.result _ _ (λ _ h. (takes_all g.T.FallibleInsert.RANGE c.args.indices _ _ h).added) c.extend_index_refs.ensures.all

pub returns-clause-in_range : goal.returns-clause-in_range
returns-clause-in_range g c = IfOk-weaker c.extend_index_refs.result _ _ (λ _ h. (takes_all g.T.FallibleInsert.RANGE c.args.indices _ _ h).in_range) c.extend_index_refs.ensures.all

pub returns-clause-added_before : goal.returns-clause-added_before
returns-clause-added_before g c = IfErr-weaker c.extend_index_refs.result _ _ (λ error h. (stopped_in g.T.FallibleInsert.RANGE _ c.args.indices _ _ error h).some) c.extend_index_refs.ensures.stops

pub returns-clause-error_place : goal.returns-clause-error_place
returns-clause-error_place g c = IfErr-weaker c.extend_index_refs.result _ _ (λ error h. (stopped_in g.T.FallibleInsert.RANGE _ c.args.indices _ _ error h).place) c.extend_index_refs.ensures.stops

pub returns-clause-in_range_before : goal.returns-clause-in_range_before
returns-clause-in_range_before g c = IfErr-weaker c.extend_index_refs.result _ _ (λ error h. (stopped_in g.T.FallibleInsert.RANGE _ c.args.indices _ _ error h).before) c.extend_index_refs.ensures.stops

pub returns-clause-reason : goal.returns-clause-reason
returns-clause-reason g c = IfErr-weaker c.extend_index_refs.result _ _ (λ error h. (stopped_in g.T.FallibleInsert.RANGE _ c.args.indices _ _ error h).why) c.extend_index_refs.ensures.stops

pub returns-clause-lacks_room : goal.returns-clause-lacks_room
returns-clause-lacks_room g c = IfErr-weaker c.extend_index_refs.result _ _ (λ error h. (stopped_in g.T.FallibleInsert.RANGE _ c.args.indices _ _ error h).lacking) c.extend_index_refs.ensures.stops
