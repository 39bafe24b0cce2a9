use Rattle.hibitset_atomic.specs.Layers.{layer_word}
use Rattle.hibitset_base.proofs.MembershipLemmas.{holds_none}
use Rattle.hibitset_atomic.specs.AtomicBitSet.{has, word_of}
use Rattle.hibitset_atomic.proofs.atomic.AtomicBitSet.new.Goals as goal

pub returns-clause-empty : goal.returns-clause-empty
unfolding has word_of
returns-clause-empty c = holds_none (layer_word c.in_ok-layers.layers) c.in_ok-layers.ensures.zero
