use Rattle.std.proofs.Common.{sym}
use Rattle.hibitset.proofs.LayerLemmas.{top_word}
use Rattle.hibitset.proofs.layers.Layers.top.Goals as goal

pub returns : goal.returns
returns c = sym (top_word c.args.self.now)
