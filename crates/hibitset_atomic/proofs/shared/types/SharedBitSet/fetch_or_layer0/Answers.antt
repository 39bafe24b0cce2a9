use Rattle.std.proofs.Common.{arith}
use Rattle.hibitset_atomic.proofs.CallerStepLemmas.{enters_, entered, entered_counts}
use Rattle.hibitset_atomic.proofs.shared.types.SharedBitSet.fetch_or_layer0.Goals as goal

pub fetch_or-found-requires : goal.fetch_or-found-requires
fetch_or-found-requires c = (c.requires.same_table, (let e = c.args.self.now.counts.0 in let l = c.requires.id in omega (arith, e, l)), enters_ _ _ _ c.args.id _ c.requires.id c.requires.seat.1 c.requires.seat.0)

pub returns-clause-same : goal.returns-clause-same
returns-clause-same c = let t = entered c.args.id c.fetch_or-found.result _ _ c.fetch_or-found.ensures.2 in (c.fetch_or-found.ensures.0, c.fetch_or-found.ensures.1, t.0, t.1)

pub returns-clause-counts : goal.returns-clause-counts
returns-clause-counts c = entered_counts c.args.id c.fetch_or-found.result _ _ c.fetch_or-found.ensures.2
