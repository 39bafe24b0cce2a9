use Rattle.std.proofs.Common.{◌≡◌, ℕ, ◌-◌, ◌*◌, ◌<◌, ◌++◌, ◌∷◌, [], Bool, false, cond, List, sym, ap, ◌∙◌, subst, arith, lit<}
use Rattle.hibitset_base.specs.Cursor.{cursor_places}
use Rattle.hibitset_base.specs.Places.{Place, places_in, bits_from}
use Rattle.hibitset_atomic.specs.Ahead.{AllAbove, words_below}
use Rattle.hibitset_atomic.specs.Layers.{layer_word}
use Rattle.hibitset_atomic.specs.History.{top_word}
use Rattle.hibitset_atomic.specs.CoreState.{left_of}
use Rattle.hibitset_atomic.proofs.CursorWordLemmas.{above-append, above-places, above-rest, below-places, below-only, done_below, not_new, a_new, ended_on}
use Rattle.hibitset_atomic.proofs.ReadStepLemmas.{items-low, left-high}
use Rattle.hibitset_atomic.proofs.steps.walks.Progress.read.Goals as goal

pub invariant_of-self-then-self : goal.invariant_of-self-then-self
invariant_of-self-then-self c = record { above = subst AllAbove (sym c.at_top-self.ensures.left) (above-places 3 (bits_from 0 c.word-word.result) (lit< tt)) }

pub returns-then-self-clause-left : goal.returns-then-self-clause-left
returns-then-self-clause-left c =
    let s = c.args.self.now in
    left-high (layer_word c.args.layers.now) s.items.items (left_of s) [] 3 0 c.word-word.result (a_new s.is_new (top_word 4) (cursor_places s.cursor) c.if-self.true) c.word-word.ensures _ (lit< tt)
    (ap words_below c.at_top-self.ensures.left ∙ below-only 3 (bits_from 0 c.word-word.result))

pub returns-then-self-clause-end : goal.returns-then-self-clause-end
returns-then-self-clause-end c = done_below c.is_done.result (cursor_places c.at_top-self.result) c.is_done.ensures

-- the words that were left, where the first place is taken
first_left : (new : Bool) (top : Place) (ps rest : List Place) (layer position : ℕ) → new ≡ false → ps ≡ (record { layer = layer; position = position }) ∷ rest
    → cond new (top ∷ []) (words_below ps) ≡ (record { layer = layer - 1; position = position }) ∷ words_below rest
first_left new top ps rest layer position e taken = not_new new top ps e ∙ ap words_below taken

pub returns-then-layer-eq1-clause-items : goal.returns-then-layer-eq1-clause-items
returns-then-layer-eq1-clause-items c =
    let s = c.args.self.now in
    let layer : ℕ = c.in-Some.layer in
    let one : layer ≡ 1 = c.if-layer-eq1.true in
    let place : c.in-Some.position * 64 ≡ 64 * c.in-Some.position = omega arith in
    let word : ℕ = c.word-word-2.result in
    let e : c.push_bits.new.items.items ≡ s.items.items ++ bits_from (64 * c.in-Some.position) word =
    c.push_bits.ensures ∙ (ap (λ x. c.reserve.new.self.items ++ bits_from x word) place ∙ ap (λ xs. xs ++ bits_from (64 * c.in-Some.position) word) c.reserve.ensures.items) in
    items-low (layer_word c.args.layers.now) s.items.items (left_of s) (words_below (cursor_places c.take_lowest.new.self)) (layer - 1) c.in-Some.position word
    (first_left s.is_new (top_word 4) (cursor_places s.cursor) (cursor_places c.take_lowest.new.self) layer c.in-Some.position c.if-self.false c.in-Some.ensures.taken) c.word-word-2.ensures
    c.push_bits.new.items.items (omega arith) e

pub returns-then-layer-eq1-clause-end : goal.returns-then-layer-eq1-clause-end
returns-then-layer-eq1-clause-end c = ended_on c.args.self.now.is_new c.is_done-then-layer-eq1.result (top_word 4) (cursor_places c.take_lowest.new.self) c.if-self.false c.is_done-then-layer-eq1.ensures

pub invariant_of-self-2 : goal.invariant_of-self-2
invariant_of-self-2 c =
    let s = c.args.self.now in
    let layer : ℕ = c.in-Some.layer in
    let a = above-rest (cursor_places s.cursor) (cursor_places c.take_lowest.new.self) (record { layer = layer; position = c.in-Some.position }) c.in-Some.ensures.taken s.above in
    let some : 0 < layer = a.0 in
    let more : (layer ≡ 1 → ⊥) = c.if-layer-eq1.false in
    let high : 0 < layer - 1 = omega arith in
    record {
      above = subst AllAbove (sym c.push_bits-2.ensures.left) (above-append (places_in (layer - 1) (bits_from (64 * c.in-Some.position) c.word-word-2.result)) (cursor_places c.take_lowest.new.self) (above-places (layer - 1) _ high) a.1);
    }

pub returns-clause-left : goal.returns-clause-left
returns-clause-left c =
    let s = c.args.self.now in
    let layer : ℕ = c.in-Some.layer in
    let rest : List Place = cursor_places c.take_lowest.new.self in
    let a = above-rest (cursor_places s.cursor) rest (record { layer = layer; position = c.in-Some.position }) c.in-Some.ensures.taken s.above in
    let some : 0 < layer = a.0 in
    let more : (layer ≡ 1 → ⊥) = c.if-layer-eq1.false in
    let high : 0 < layer - 1 = omega arith in
    left-high (layer_word c.args.layers.now) s.items.items (left_of s) (words_below rest) (layer - 1) c.in-Some.position c.word-word-2.result
    (first_left s.is_new (top_word 4) (cursor_places s.cursor) rest layer c.in-Some.position c.if-self.false c.in-Some.ensures.taken) c.word-word-2.ensures _ high
    (not_new s.is_new (top_word 4) (cursor_places c.push_bits-2.new.self) c.if-self.false ∙ (ap words_below c.push_bits-2.ensures.left ∙ below-places (layer - 1) (bits_from (64 * c.in-Some.position) c.word-word-2.result) rest))

pub returns-clause-end : goal.returns-clause-end
returns-clause-end c = ended_on c.args.self.now.is_new c.is_done-2.result (top_word 4) (cursor_places c.push_bits-2.new.self) c.if-self.false c.is_done-2.ensures
