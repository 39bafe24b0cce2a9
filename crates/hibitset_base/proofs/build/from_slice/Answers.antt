use Rattle.std.proofs.Common.{false}
use Rattle.std.proofs.lemmas.Result.{IfOk-weaker, IfErr-weaker}
use Rattle.hibitset_base.proofs.SliceLemmas.{takes_all, made_of, refused_in}
use Rattle.hibitset_base.proofs.build.from_slice.Goals as goal

pub returns-clause-members : goal.returns-clause-members
returns-clause-members g c = IfOk-weaker c.from_index_refs.result _ _ (λ made h. made_of _ c.args.indices.now (takes_all g.T.FallibleInsert.RANGE c.args.indices (λ _. false) _ h).added) c.from_index_refs.ensures.all

pub returns-clause-in_range : goal.returns-clause-in_range
returns-clause-in_range g c = IfOk-weaker c.from_index_refs.result _ _ (λ made h. (takes_all g.T.FallibleInsert.RANGE c.args.indices (λ _. false) _ h).in_range) c.from_index_refs.ensures.all

pub returns-clause-error_place : goal.returns-clause-error_place
returns-clause-error_place g c = IfErr-weaker c.from_index_refs.result _ _ (λ error h. (refused_in g.T.FallibleInsert.RANGE g.T.FallibleInsert.need_separate_room c.args.indices error h).place) c.from_index_refs.ensures.stops

pub returns-clause-in_range_before : goal.returns-clause-in_range_before
returns-clause-in_range_before g c = IfErr-weaker c.from_index_refs.result _ _ (λ error h. (refused_in g.T.FallibleInsert.RANGE g.T.FallibleInsert.need_separate_room c.args.indices error h).before) c.from_index_refs.ensures.stops

pub returns-clause-reason : goal.returns-clause-reason
returns-clause-reason g c = IfErr-weaker c.from_index_refs.result _ _ (λ error h. (refused_in g.T.FallibleInsert.RANGE g.T.FallibleInsert.need_separate_room c.args.indices error h).why) c.from_index_refs.ensures.stops

pub returns-clause-apart : goal.returns-clause-apart
returns-clause-apart g c = IfErr-weaker c.from_index_refs.result _ _ (λ error h. (refused_in g.T.FallibleInsert.RANGE g.T.FallibleInsert.need_separate_room c.args.indices error h).lies_apart) c.from_index_refs.ensures.stops
