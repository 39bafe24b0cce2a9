use Rattle.std.proofs.Common.{ap, ◌∙◌}
use Rattle.hibitset_atomic.specs.declared.layers.Layers.{Layers}
use Rattle.hibitset_atomic.specs.Layers.{layer_word}
use Rattle.hibitset_base.specs.Words.{holds_at}
use Rattle.hibitset_atomic.specs.Worlds.{old_of, past_of}
use Rattle.hibitset_atomic.proofs.LayerLemmas.{layers_fit}
use Rattle.hibitset_atomic.proofs.WorldStepLemmas.{members-rest, summed-rest}
use Rattle.hibitset_atomic.specs.AtomicBitSet.{has, word_of}
use Rattle.hibitset_atomic.proofs.steps.state.World.settle.Goals as goal

pub from_layers-requires : goal.from_layers-requires
from_layers-requires c =
    let s = c.args.self in
    summed-rest (old_of s) (past_of s) (layer_word s.layers) s.calls s.walks (layers_fit s.layers) s.of_past c.requires

pub returns-clause-members : goal.returns-clause-members
unfolding has word_of
returns-clause-members c =
    let s = c.args.self in
    λ i. ap (λ (l : Layers). holds_at (layer_word l) i) c.from_layers.ensures ∙ members-rest (old_of s) (past_of s) (layer_word s.layers) s.calls s.walks s.of_past i

pub returns-clause-exact : goal.returns-clause-exact
unfolding word_of
returns-clause-exact c = c.from_layers.result.summed
