use Rattle.std.proofs.Common.{◌&&◌, sym, ap, ◌∙◌}
use Rattle.std.proofs.lemmas.Bool.{both_ways}
use Rattle.hibitset.specs.WordBits.{stands_in}
use Rattle.hibitset_roaring.specs.Runs.{are_runs_shorter}
use Rattle.hibitset_roaring.specs.Kinds.{shorter_are_runs}
use Rattle.hibitset_roaring.proofs.KindLemmas.{never_shorter, kind_counted}
use Rattle.hibitset_roaring.proofs.encode.kind_of.Goals as goal

pub returns-then-optimized-clause-kind : goal.returns-then-optimized-clause-kind
returns-then-optimized-clause-kind g c =
    let words = g.S.ContainerSource.words c.args.source.now in
    kind_counted words c.args.key c.args.count c.count_runs.result (g.met.S.ContainerSource.fits c.args.source.now) c.requires.count c.count_runs.ensures
    ∙ sym (ap (λ o. o && shorter_are_runs (stands_in words) c.args.key) c.if-optimized.true)

pub returns-then-optimized-clause-exact : goal.returns-then-optimized-clause-exact
returns-then-optimized-clause-exact g c = c.count_runs.ensures.exact

pub returns-else-optimized-clause-kind : goal.returns-else-optimized-clause-kind
returns-else-optimized-clause-kind g c = never_shorter c.args.count ∙ sym (ap (λ o. o && shorter_are_runs (stands_in (g.S.ContainerSource.words c.args.source.now)) c.args.key) c.if-optimized.false)

pub returns-else-optimized-clause-exact : goal.returns-else-optimized-clause-exact
returns-else-optimized-clause-exact g c = λ on. absurd (both_ways (are_runs_shorter c.args.count c.args.count) (never_shorter c.args.count) on)
