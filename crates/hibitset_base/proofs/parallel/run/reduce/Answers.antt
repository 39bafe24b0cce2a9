use Rattle.hibitset_base.proofs.FoldLemmas.{combined-more}
use Rattle.hibitset_base.proofs.parallel.run.reduce.Goals as goal

pub loop-next-preserved : goal.loop-next-preserved
loop-next-preserved g c = (
  c.loop-next.invariant.0,
  combined-more _ c.loop-next.so_far c.loop-next.yielded c.in-Some.next c.reduce_step.result c.loop-next.invariant.1 c.reduce_step.ensures,
)
