use Rattle.std.proofs.Common.{refl, arith}
use Rattle.hibitset_base.specs.declared.util.TheConstants.{LAYERS}
use Rattle.hibitset.specs.Layers.{lists}
use Rattle.hibitset.proofs.LayoutLemmas.{with_top, top_laid, top_others, top_layers, word_top, same_lengths}
use Rattle.hibitset.proofs.LayerLemmas.{layout_of, laid, opened, keeps}
use Rattle.hibitset.proofs.layers.Layers.store_top.Goals as goal

pub invariant_of-self : goal.invariant_of-self
invariant_of-self c =
    let self = c.args.self.now in
    let kept = opened self.kept in
    record { kept = keeps (with_top (layout_of self) c.args.word) self.starts self.lens (top_laid LAYERS (layout_of self) c.args.word (laid self) (omega arith)) kept.begins kept.lengths }

pub returns-clause-here : goal.returns-clause-here
unfolding lists
returns-clause-here c = let self = c.args.self.now in word_top LAYERS (with_top (layout_of self) c.args.word)

pub returns-clause-others : goal.returns-clause-others
unfolding lists
returns-clause-others c = let self = c.args.self.now in top_others LAYERS (layout_of self) c.args.word (laid self) (omega arith)

pub returns-clause-layers : goal.returns-clause-layers
unfolding lists
returns-clause-layers c = let self = c.args.self.now in top_layers LAYERS (layout_of self) c.args.word (laid self) (omega arith)

pub returns-clause-lengths : goal.returns-clause-lengths
unfolding lists
returns-clause-lengths c =
    let self = c.args.self.now in
    same_lengths LAYERS (layout_of self) (with_top (layout_of self) c.args.word) (laid self) (top_laid LAYERS (layout_of self) c.args.word (laid self) (omega arith)) refl
