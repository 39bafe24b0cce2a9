use Rattle.hibitset_atomic.proofs.WorldStepLemmas.{of_start}
use Rattle.hibitset_atomic.proofs.steps.state.World.new.Goals as goal

pub invariant_of-result : goal.invariant_of-result
invariant_of-result c = record {
  of_past = of_start c.args.set c.of.result.value c.new.result.items c.into_layers.result c.new-2.result c.new-3.result c.of.ensures c.new.ensures.items c.into_layers.ensures.same c.into_layers.ensures.summed c.new-2.ensures c.new-3.ensures;
}
