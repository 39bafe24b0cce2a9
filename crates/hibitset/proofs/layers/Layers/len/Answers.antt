use Rattle.std.proofs.Common.{lit<}
use Rattle.hibitset.proofs.LayerLemmas.{length_is}
use Rattle.hibitset.proofs.layers.Layers.len.Goals as goal

pub returns : goal.returns
returns c = length_is c.args.self.now 0 (lit< tt)
