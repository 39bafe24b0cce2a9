use Rattle.std.proofs.Common.{◌-◌, ◌^◌, ◌≤◌, lit<, arith}
use Rattle.hibitset_base.specs.declared.util.TheConstants.{LAYERS}
use Rattle.hibitset.specs.Layers.{len_in}
use Rattle.hibitset.specs.declared.layers.Layers.{Layers}
use Rattle.hibitset.proofs.LayerLemmas.{shaped}
use Rattle.hibitset.proofs.set.BitSet.remove_range.Goals as goal

-- layer 0 has no more words than it may have
short : (x : Layers) → len_in x 0 ≤ 64 ^ (LAYERS - 1)
short x = (shaped x).short 0 (lit< tt)

pub overflow_mul-len : goal.overflow_mul-len
overflow_mul-len c = let h = short c.args.self.now.layers in let e = c.len.ensures in omega (arith, h, e)

pub clear_range-requires-clause-within : goal.clear_range-requires-clause-within
clear_range-requires-clause-within c = let h = short c.args.self.now.layers in let e = c.len.ensures in let m = c.min-end.ensures in omega (arith, h, e, m)
