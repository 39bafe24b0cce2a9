use Rattle.hibitset_base.specs.declared.util.TheConstants.{LAYERS}
use Rattle.hibitset.specs.Layers.{lists}
use Rattle.hibitset.proofs.LayoutLemmas.{empty_laid, none_words, none_lengths}
use Rattle.hibitset.proofs.LayerLemmas.{keeps_none}
use Rattle.hibitset.proofs.layers.Layers.clear.Goals as goal

pub invariant_of-self : goal.invariant_of-self
invariant_of-self c = record { kept = keeps_none c.clear.new.self.items c.clear.ensures.items }

pub returns-clause-zero : goal.returns-clause-zero
unfolding lists
returns-clause-zero c = none_words LAYERS c.clear.new.self.items 0 (empty_laid LAYERS c.clear.new.self.items c.clear.ensures.items)

pub returns-clause-lengths : goal.returns-clause-lengths
unfolding lists
returns-clause-lengths c = none_lengths LAYERS c.clear.new.self.items 0 (empty_laid LAYERS c.clear.new.self.items c.clear.ensures.items)
