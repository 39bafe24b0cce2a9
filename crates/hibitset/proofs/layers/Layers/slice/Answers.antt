use Rattle.std.proofs.Common.{rules, ◌≡◌, ℕ, ◌+◌, ◌-◌, ◌<◌, ◌≤◌, List, take, drop, get_or, length, [], ◌∙◌, ap, arith}
use Rattle.hibitset_base.specs.declared.util.TheConstants.{LAYERS}
use Rattle.hibitset.specs.Layout.{layer_len, layer_start, count_of}
use Rattle.hibitset.specs.Layers.{lists, room_in}
use Rattle.hibitset.specs.declared.layers.Layers.{Layers}
use Rattle.hibitset.proofs.LayerLemmas.{slice_is, length_is, length_of, slice_within, list_short}
use Rattle.hibitset.proofs.layers.Layers.slice.Goals as goal

cut : (x : Layers) (l at : ℕ) (items : List ℕ) → l < LAYERS - 1 → at ≡ layer_start l (room_in x) → items ≡ x.words.items → take (at + get_or x.lens l 0 - at) (drop at items) ≡ get_or (lists x) l []
cut x l at items below at-is items-is =
    let long-is : get_or x.lens l 0 ≡ layer_len l (count_of x.lens) = length_is x l below ∙ length_of x l below in
    let e : at + get_or x.lens l 0 - at ≡ get_or x.lens l 0 = omega arith in
    rw (e, at-is, long-is, items-is) (slice_is x l below)

within : (x : Layers) (l at : ℕ) → l < LAYERS - 1 → at ≡ layer_start l (room_in x) → at + get_or x.lens l 0 ≤ length x.words.items
within x l at below at-is = let h = slice_within x l below in let k = length_is x l below in omega (arith, h, k, at-is)

pub overflow_add-result : goal.overflow_add-result
overflow_add-result c = let h = within c.args.self.now c.args.layer c.layer_start-start.result c.requires c.layer_start-start.ensures in let k = list_short c.args.self.now in omega (arith, h, k)

pub offset_bounds-deref-start : goal.offset_bounds-deref-start
offset_bounds-deref-start c = let h = within c.args.self.now c.args.layer c.layer_start-start.result c.requires c.layer_start-start.ensures in let k = list_short c.args.self.now in omega (arith, h, k)

pub slice_bounds-result-end : goal.slice_bounds-result-end
slice_bounds-result-end c =
    let h = within c.args.self.now c.args.layer c.layer_start-start.result c.requires c.layer_start-start.ensures in
    let room : c.layer_start-start.result + get_or c.args.self.now.lens c.args.layer 0 ≤ length c.deref.result.now = rw c.deref.ensures.value h in
    search (rules, room)

pub returns-clause-length : goal.returns-clause-length
returns-clause-length c = ap length (cut c.args.self.now c.args.layer c.layer_start-start.result c.deref.result.now c.requires c.layer_start-start.ensures c.deref.ensures.value)

pub returns-clause-words : goal.returns-clause-words
returns-clause-words c = λ p. ap (λ xs. get_or xs p 0) (cut c.args.self.now c.args.layer c.layer_start-start.result c.deref.result.now c.requires c.layer_start-start.ensures c.deref.ensures.value)
