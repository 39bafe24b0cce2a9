use Rattle.std.proofs.Common.{arith, lit<}
use Rattle.hibitset.proofs.LayerLemmas.{shaped}
use Rattle.hibitset.proofs.set.BitSet.layer2_as_slice.Goals as goal

pub returns-clause-len_max : goal.returns-clause-len_max
returns-clause-len_max c = let h = (shaped c.args.self.now.layers).short 2 (lit< tt) in let e = c.slice.ensures.length in omega (arith, h, e)
