use Rattle.std.proofs.Common.{◌≡◌, ◌≢◌, ℕ, ◌+◌, ◌*◌, refl, ◌∙◌, arith, set}
use Rattle.std.proofs.lemmas.List.{get_or-set_same, get_or-set_other}
use Rattle.hibitset_atomic.specs.Layers.{layer_word, word_over}
use Rattle.hibitset_atomic.specs.Blocks.{block_word}
use Rattle.std.proofs.Common.{[], ◌∷◌}
use Rattle.hibitset_atomic.proofs.ClearLemmas.{layer1_more, layer0_more, beside_more, clear_done}
use Rattle.hibitset_atomic.proofs.layers.Layers.clear_under.Goals as goal

pub loop-left-preserved : goal.loop-left-preserved
loop-left-preserved c =
    let i = c.loop-left in
    let self = i.self in
    let bit = c.take_bit.ensures in
    let at : ℕ = 64 * c.args.place + c.take_bit.result in
    let e = c.clear_block.ensures in
    let v : ℕ → ℕ → ℕ = word_over (block_word c.clear_block.new.self) (set self.layer1.items at 0 ∷ self.layer2.items ∷ (self.layer3 ∷ []) ∷ []) in
    let here : v 1 at ≡ 0 = get_or-set_same self.layer1.items at 0 0 (let w = self.whole1 in let p = c.requires.in_range in let b = bit.in_word in omega (arith, w, p, b)) in
    let others : (k : ℕ) → k ≢ at → v 1 k ≡ layer_word self 1 k = λ k other. get_or-set_other self.layer1.items at k 0 0 other in
    record {
      here = i.invariant.here;
      layer1 = layer1_more (layer_word self) v c.args.place c.take_bit.result i.left c.take_bit.new.word bit.in_word bit.same (λ k. refl) here others e.inside e.outside i.invariant.layer1;
      layer0 = layer0_more (layer_word self) v c.args.place c.take_bit.result i.left c.take_bit.new.word bit.in_word bit.same (λ k. refl) here others e.inside e.outside i.invariant.layer0;
      outside = (let o = beside_more (layer_word self) v c.args.place c.take_bit.result i.left c.take_bit.new.word bit.in_word bit.same (λ k. refl) here others e.inside e.outside (layer_word c.args.self.now) i.invariant.outside in record { layer2 = o.layer2; layer1 = o.layer1; layer0 = o.layer0 });
      top = i.invariant.top;
      blocks = e.made ∙ i.invariant.blocks;
      room = e.same_capacity ∙ i.invariant.room;
    }

pub returns-clause-inside : goal.returns-clause-inside
returns-clause-inside c = clear_done (layer_word c.loop-left.self) c.args.place c.loop-left.left c.loop-left-test.false c.loop-left.invariant.here c.loop-left.invariant.layer1 c.loop-left.invariant.layer0
