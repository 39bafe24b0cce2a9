use Rattle.std.proofs.Common.{◌+◌, arith}
use Rattle.hibitset.proofs.LayerLemmas.{has_above}
use Rattle.hibitset.proofs.layers.Layers.update_above.Goals as goal

pub update_summaries-requires-clause-in_range : goal.update_summaries-requires-clause-in_range
update_summaries-requires-clause-in_range c = rw (c.update_parent_bit.ensures.lengths (c.args.layer + 1)) (has_above c.args.self.now c.args.layer c.args.place (omega (arith, c.requires.layer)) c.requires.in_range)
