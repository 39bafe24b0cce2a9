use Rattle.std.proofs.Common.{rules, ◌≡◌, ℕ, ◌+◌, ◌-◌, ◌<◌, length, arith}
use Rattle.hibitset_base.specs.declared.util.TheConstants.{LAYERS}
use Rattle.hibitset.specs.Layout.{layer_len, layer_start, count_of}
use Rattle.hibitset.specs.Layers.{lists, len_in, room_in}
use Rattle.hibitset.specs.declared.layers.Layers.{Layers}
use Rattle.hibitset.proofs.LayoutLemmas.{with_word, put_within, put_laid, put_here, put_others, put_layers, put_lengths}
use Rattle.hibitset.proofs.LayerLemmas.{layout_of, laid, opened, keeps, length_of, list_short}
use Rattle.hibitset.proofs.layers.Layers.store_word.Goals as goal

-- a place that a layer has
counted : (x : Layers) (l p : ℕ) → l < LAYERS - 1 → p < len_in x l → p < layer_len l (count_of x.lens)
counted x l p below here = let h = length_of x l below in omega (arith, h, here)

within : (x : Layers) (l p at : ℕ) → l < LAYERS - 1 → p < len_in x l → at ≡ layer_start l (room_in x) → at + p < length x.words.items
within x l p at below here is = rw is (put_within LAYERS (layout_of x) (laid x) l p 0 below (counted x l p below here))

pub overflow_add-start : goal.overflow_add-start
overflow_add-start c =
    let self = c.args.self.now in
    let h = within self c.args.layer c.args.place c.layer_start-start.result c.requires.layer c.requires.in_range c.layer_start-start.ensures in
    let short = list_short self in
    omega (arith, h, short)

pub index_mut-requires : goal.index_mut-requires
index_mut-requires c =
    let room = within c.args.self.now c.args.layer c.args.place c.layer_start-start.result c.requires.layer c.requires.in_range c.layer_start-start.ensures in
    search (rules, room)

pub invariant_of-self : goal.invariant_of-self
invariant_of-self c =
    let self = c.args.self.now in
    let kept = opened self.kept in
    let there = counted self c.args.layer c.args.place c.requires.layer c.requires.in_range in
    record {
      kept = rw c.layer_start-start.ensures (keeps (with_word (layout_of self) c.args.layer c.args.place c.args.word) self.starts self.lens
          (put_laid LAYERS (layout_of self) (laid self) c.args.layer c.args.place c.args.word c.requires.layer there (omega arith)) kept.begins kept.lengths);
    }

pub returns-clause-here : goal.returns-clause-here
unfolding lists
returns-clause-here c =
    let self = c.args.self.now in
    let there = counted self c.args.layer c.args.place c.requires.layer c.requires.in_range in
    rw c.layer_start-start.ensures (put_here LAYERS (layout_of self) (laid self) c.args.layer c.args.place c.args.word c.requires.layer there (omega arith))

pub returns-clause-others : goal.returns-clause-others
unfolding lists
returns-clause-others c =
    let self = c.args.self.now in
    let there = counted self c.args.layer c.args.place c.requires.layer c.requires.in_range in
    rw c.layer_start-start.ensures (put_others LAYERS (layout_of self) (laid self) c.args.layer c.args.place c.args.word c.requires.layer there (omega arith))

pub returns-clause-layers : goal.returns-clause-layers
unfolding lists
returns-clause-layers c =
    let self = c.args.self.now in
    let there = counted self c.args.layer c.args.place c.requires.layer c.requires.in_range in
    rw c.layer_start-start.ensures (put_layers LAYERS (layout_of self) (laid self) c.args.layer c.args.place c.args.word c.requires.layer there (omega arith))

pub returns-clause-lengths : goal.returns-clause-lengths
unfolding lists
returns-clause-lengths c =
    let self = c.args.self.now in
    let there = counted self c.args.layer c.args.place c.requires.layer c.requires.in_range in
    rw c.layer_start-start.ensures (put_lengths LAYERS (layout_of self) (laid self) c.args.layer c.args.place c.args.word c.requires.layer there (omega arith))
