use Rattle.std.proofs.Common.{◌-◌, sym, ◌∙◌}
use Rattle.std.proofs.lemmas.Bool.{eqb-true}
use Rattle.hibitset_base.specs.Decisions.{eq_same}
use Rattle.hibitset_base.specs.declared.util.TheConstants.{LAYERS}
use Rattle.hibitset_base.proofs.ReadBoundLemmas.{top_tells_empty}
use Rattle.hibitset_atomic.specs.declared.layers.TheConstants.{ATOMIC_LAYERS}
use Rattle.hibitset_atomic.specs.AtomicBitSet.{has, word_of, topped_word, topped_is_lawful}
use Rattle.hibitset_atomic.specs.Layers.{single_word}
use Rattle.hibitset_atomic.specs.TopLayerLemmas.{topped_exact, topped_fits}
use Rattle.hibitset_atomic.proofs.LayerLemmas.{layers_fit}
use Rattle.hibitset_atomic.proofs.atomic.AtomicBitSetBitSetLike.is_empty.Goals as goal

pub returns : goal.returns
unfolding word_of
returns c =
    let self = c.args.self.now in
    let exact = topped_exact (ATOMIC_LAYERS - 1) (word_of self) self.summed (single_word self.layers) in
    let fits = topped_fits (ATOMIC_LAYERS - 1) (word_of self) (layers_fit self.layers) in
    let top = top_tells_empty (LAYERS - 1) (has self) (topped_word self) (topped_is_lawful self) exact fits in
    let is = c.layer4.ensures in
    (λ h. top.0 (sym is ∙ eqb-true c.layer4.result 0 h), λ h. eq_same c.layer4.result 0 (is ∙ top.1 h))
