use Rattle.std.proofs.Common.{[], subst}
use Rattle.std.proofs.lemmas.List.{append-nil, drop_all}
use Rattle.hibitset_base.specs.Parts.{AreCounts}
use Rattle.hibitset_base.proofs.parallel.run.counts_alone.Goals as goal

pub returns : goal.returns
returns g c =
    let none = drop_all c.loop-part.part-index c.args.parts.now c.loop-part-test.false in
    subst (AreCounts (λ s. g.T.BitSetLike.holds s.now) c.args.parts.now) (append-nil c.loop-part.counts.items) (c.loop-part.invariant [] (rw none tt))
