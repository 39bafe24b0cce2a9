use Rattle.std.proofs.Common.{◌+◌, ◌/◌}
use Rattle.hibitset_base.specs.declared.util.TheConstants.{LAYERS}
use Rattle.hibitset_base.proofs.SummaryUpdateLemmas.{summed_same}
use Rattle.hibitset.specs.Layers.{word_in, len_in}
use Rattle.hibitset.proofs.LengthLemmas.{grown, most_over}
use Rattle.hibitset.proofs.set.BitSet.ensure_word.Goals as goal

pub invariant_of-self : goal.invariant_of-self
invariant_of-self g c = record { summed = summed_same LAYERS (word_in c.args.self.now.layers) (word_in c.set_len.new.self) c.set_len.ensures.same c.args.self.now.summed }

pub returns-clause-upper_len_max : goal.returns-clause-upper_len_max
returns-clause-upper_len_max g c = λ l below. most_over c.args.self.now.layers c.set_len.new.self c.args.id l below (grown (len_in c.args.self.now.layers 0) (len_in c.set_len.new.self 0) (c.args.id / 64 + 1) c.set_len.result c.set_len.ensures.length c.set_len.ensures.err)
