use Rattle.hibitset_base.specs.declared.util.TheConstants.{LAYERS}
use Rattle.hibitset_base.proofs.MembershipLemmas.{holds_none, summed_none}
use Rattle.hibitset.specs.BitSet.{has, word_of}
use Rattle.hibitset.specs.Layers.{word_in}
use Rattle.hibitset.proofs.set.BitSet.clear.Goals as goal

pub invariant_of-self : goal.invariant_of-self
invariant_of-self c = record { summed = summed_none LAYERS (word_in c.clear.new.self) c.clear.ensures.zero }

pub returns-clause-empty : goal.returns-clause-empty
unfolding has word_of
returns-clause-empty c = holds_none (word_in c.clear.new.self) c.clear.ensures.zero
