use Rattle.std.proofs.Common.{arith}
use Rattle.hibitset_atomic.proofs.InvariantLemmas.{looks}
use Rattle.hibitset_atomic.proofs.CallerStepLemmas.{looked_counts}
use Rattle.hibitset_atomic.proofs.shared.types.SharedBitSet.load.Goals as goal

pub load-requires : goal.load-requires
load-requires c = (c.requires.same_table, (let e = c.args.self.now.counts.0 in let l = c.requires.in_range in omega (arith, e, l)), looks _ _ _ _ _ c.requires.seat)

pub returns-clause-counts : goal.returns-clause-counts
returns-clause-counts c = looked_counts _ _ _ _ c.load.ensures.2
