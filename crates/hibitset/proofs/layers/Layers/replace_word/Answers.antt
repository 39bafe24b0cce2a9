use Rattle.hibitset_base.specs.declared.util.TheConstants.{LAYERS}
use Rattle.hibitset.specs.Layers.{word_in}
use Rattle.hibitset.proofs.SummaryUpdateLemmas.{but_first}
use Rattle.hibitset.proofs.layers.Layers.replace_word.Goals as goal

pub update_above-requires-clause-summed : goal.update_above-requires-clause-summed
update_above-requires-clause-summed c = but_first LAYERS (word_in c.args.self.now) (word_in c.store_word.new.self) c.args.place c.requires.summed c.store_word.ensures.others c.store_word.ensures.layers
