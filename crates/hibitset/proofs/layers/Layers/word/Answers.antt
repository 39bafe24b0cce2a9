use Rattle.std.proofs.Common.{rules, ◌≡◌, ℕ, ◌+◌, ◌-◌, ◌<◌, get_or, length, sym, ◌∙◌, ap, arith}
use Rattle.hibitset_base.specs.declared.util.TheConstants.{LAYERS}
use Rattle.hibitset_base.proofs.ListLemmas.{get_or_any}
use Rattle.hibitset.specs.Layout.{layer_start}
use Rattle.hibitset.specs.Layers.{len_in, room_in}
use Rattle.hibitset.specs.declared.layers.Layers.{Layers}
use Rattle.hibitset.proofs.LayerLemmas.{length_is, slice_within, list_short, word_there, past_end}
use Rattle.hibitset.proofs.layers.Layers.word.Goals as goal

-- the place lies within the list
within : (x : Layers) (l p at : ℕ) → l < LAYERS - 1 → p < get_or x.lens l 0 → at ≡ layer_start l (room_in x) → at + p < length x.words.items
within x l p at below here is = let h = slice_within x l below in let k = length_is x l below in omega (arith, h, k, here, is)

pub returns-then-place-self : goal.returns-then-place-self
returns-then-place-self c =
    let self = c.args.self.now in
    let k = length_is self c.args.layer c.requires in
    sym (past_end self c.args.layer c.args.place c.requires (omega (arith, k, c.if-place-self.true)))

pub bounds-slice-place : goal.bounds-slice-place
bounds-slice-place c =
    let self = c.args.self.now in
    let one = c.if-layer-eq1.true in
    let k : get_or self.lens 1 0 ≡ len_in self 1 = length_is self 1 (omega arith) in
    let here : c.args.place < get_or self.lens 1 0 = rw one at c.if-place-self.false in
    let long = c.slice.ensures.length in
    omega (arith, k, here, long)

pub offset_bounds-slice-place : goal.offset_bounds-slice-place
offset_bounds-slice-place c =
    let self = c.args.self.now in
    let one = c.if-layer-eq1.true in
    let here : c.args.place < get_or self.lens 1 0 = rw one at c.if-place-self.false in
    let room = within self 1 c.args.place (layer_start 1 (room_in self)) (omega arith) here (omega arith) in
    let short = list_short self in
    omega (arith, room, short)

pub overflow_add-layer_start : goal.overflow_add-layer_start
overflow_add-layer_start c =
    let self = c.args.self.now in
    let h = within self c.args.layer c.args.place c.layer_start.result c.requires (omega (arith, c.if-place-self.false)) c.layer_start.ensures in
    let short = list_short self in
    omega (arith, h, short)

pub index-requires : goal.index-requires
index-requires c =
    let room = within c.args.self.now c.args.layer c.args.place c.layer_start.result c.requires (omega (arith, c.if-place-self.false)) c.layer_start.ensures in
    search (rules, room)

pub returns : goal.returns
returns c =
    let self = c.args.self.now in
    let k = length_is self c.args.layer c.requires in
    let here : c.args.place < get_or self.lens c.args.layer 0 = omega (arith, c.if-place-self.false) in
    let there = word_there self c.args.layer c.args.place c.requires (omega (arith, k, here)) in
    let at : layer_start c.args.layer (room_in self) + c.args.place ≡ c.layer_start.result + c.args.place = omega (arith, c.layer_start.ensures) in
    let room = within self c.args.layer c.args.place c.layer_start.result c.requires here c.layer_start.ensures in
    c.index.ensures ∙ (get_or_any self.words.items (c.layer_start.result + c.args.place) c.index.result.now 0 room ∙ sym (there ∙ ap (λ q. get_or self.words.items q 0) at))
