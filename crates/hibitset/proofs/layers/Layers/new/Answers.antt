use Rattle.hibitset_base.specs.declared.util.TheConstants.{LAYERS}
use Rattle.hibitset.specs.Layers.{lists}
use Rattle.hibitset.proofs.LayoutLemmas.{empty_laid, none_words, none_lengths}
use Rattle.hibitset.proofs.LayerLemmas.{keeps_none}
use Rattle.hibitset.proofs.layers.Layers.new.Goals as goal

pub invariant_of-result : goal.invariant_of-result
invariant_of-result c = record { kept = keeps_none c.new.result.items c.new.ensures.items }

pub returns-clause-zero : goal.returns-clause-zero
unfolding lists
returns-clause-zero c = none_words LAYERS c.new.result.items 0 (empty_laid LAYERS c.new.result.items c.new.ensures.items)

pub returns-clause-lengths : goal.returns-clause-lengths
unfolding lists
returns-clause-lengths c = none_lengths LAYERS c.new.result.items 0 (empty_laid LAYERS c.new.result.items c.new.ensures.items)
