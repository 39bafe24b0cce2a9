use Rattle.std.proofs.Common.{not}
use Rattle.hibitset_base.specs.Walk.{items_left}
use Rattle.hibitset_base.specs.declared.util.TheConstants.{MAX_EID}
use Rattle.hibitset_base.proofs.CallerLemmas.{first_step_from}
use Rattle.hibitset_base.proofs.like.BitSetLike.first_gap.Goals as goal

pub returns : goal.returns
unfolding items_left
returns g c = first_step_from MAX_EID c.args.start (λ i. not (g.Self.BitSetLike.holds c.args.self.now i)) _ _ c.next.result c.iter_from.ensures.items c.next.ensures.steps.0
