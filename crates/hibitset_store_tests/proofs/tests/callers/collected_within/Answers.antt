use Rattle.std.proofs.Common.{ap, map, ◌∙◌}
use Rattle.std.proofs.lemmas.Result.{IfOk-weaker}
use Rattle.hibitset_store.specs.Joins.{seen}
use Rattle.hibitset_store.specs.Walks.{masked_left}
use Rattle.hibitset_store_tests.proofs.tests.callers.collected_within.Goals as goal

-- the list has the items of a whole run, which is the join
pub returns : goal.returns
returns g c = IfOk-weaker c.collect.result _ _
    (λ list collected.
    let run = collected tt in
    let pairs = c.join_masked.ensures.runs run.0 run.0.seen in
    ap (map seen) run.3.0 ∙ (pairs.4 run.2 ∙ (ap (masked_left g.M.BitSetLike.holds) run.1 ∙ c.join_masked.ensures.pairs)))
    c.collect.ensures.runs
