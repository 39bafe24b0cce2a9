use Rattle.hibitset_base.specs.declared.util.TheConstants.{LAYERS}
use Rattle.hibitset_base.proofs.MembershipLemmas.{holds_none, summed_none}
use Rattle.hibitset.specs.BitSet.{has, word_of}
use Rattle.hibitset.specs.Layers.{word_in}
use Rattle.hibitset.proofs.LengthLemmas.{limit_over}
use Rattle.hibitset.proofs.set.BitSet.with_capacity.Goals as goal

pub invariant_of-result : goal.invariant_of-result
invariant_of-result c = record { summed = summed_none LAYERS (word_in c.in_ok-layers.layers) c.in_ok-layers.ensures.zero }

pub returns-clause-empty : goal.returns-clause-empty
unfolding has word_of
returns-clause-empty c = holds_none (word_in c.in_ok-layers.layers) c.in_ok-layers.ensures.zero

pub returns-clause-upper_len_max : goal.returns-clause-upper_len_max
returns-clause-upper_len_max c = λ l end below within. limit_over c.in_ok-layers.layers c.args.max l end below c.in_ok-layers.ensures.length within
