use Rattle.std.proofs.Common.{◌≡◌, ℕ, ◌+◌, ◌-◌, ◌/◌, ◌≤◌, ◌==◌, Bool, true, false, cond, ap, ◌∙◌, refl, arith, inl, inr}
use Rattle.std.specs.Int.{bit_at}
use Rattle.hibitset_base.specs.Decisions.{same_or_not}
use Rattle.hibitset_base.specs.Sets.{bit_of}
use Rattle.hibitset_base.specs.declared.util.TheConstants.{LAYERS}
use Rattle.hibitset.specs.Layers.{word_in}
use Rattle.hibitset.proofs.LayerLemmas.{shaped}
use Rattle.hibitset.proofs.RangeFillLemmas.{within_next, room_next, put_one, put_same, beside_start, beside_next, beside_top}
use Rattle.hibitset.proofs.layers.Layers.clear_range.Goals as goal
use Rattle.hibitset.proofs.layers.Layers.clear_range.Goals.{then-loop-layer-test+else-from-to, else-loop-layer-test}

-- the zero words end after the last one at most
most : (b : Bool) (y : ℕ) → cond b (y + 1) y ≤ y + 1
most true y = omega arith
most false y = omega arith

pub loop-layer-init : goal.loop-layer-init
loop-layer-init c = record {
  layer = omega arith;
  within = omega (arith, c.requires.within);
  room = λ below. c.requires.long_enough;
  begun = λ e. (refl, refl);
  untouched = λ e p. refl;
  blanked = λ some. absurd (omega (arith, some));
  beside = beside_start LAYERS c.args.start c.args.end (word_in c.args.self.now) c.requires.summed;
  lengths = λ k. refl;
}

pub loop-layer-preserved : goal.loop-layer-preserved
loop-layer-preserved c =
    let layer : ℕ = c.loop-layer.layer in
    let h = c.loop-layer.invariant in
    let below = c.loop-layer-test.true in
    let order = c.if-from-to.true in
    let put = c.put_range.ensures in
    let self = c.loop-layer.self in
    let short : c.last_zero_word-to.result ≤ (c.loop-layer.to - 1) / 64 + 1 = (let m = most (word_in c.put_range.new.self layer ((c.loop-layer.to - 1) / 64) == 0) ((c.loop-layer.to - 1) / 64) in let e = c.last_zero_word-to.ensures in omega (arith, m, e)) in
    record {
      layer = omega (arith, below);
      within = let w = within_next LAYERS layer c.loop-layer.to (omega (arith, below)) h.within in omega (arith, w, short);
      room = λ upper. let r = room_next c.args.self.now layer c.loop-layer.to upper (omega (arith, order)) (h.room below) in omega (arith, r, short);
      begun = λ e. absurd (omega (arith, e));
      untouched = λ e p. absurd (omega (arith, e));
      blanked = λ some. elim (same_or_not layer 0) [
        | inl first ↦
            let range = h.begun first in
            rw (← range.0, ← range.1) (put_same false c.loop-layer.from c.loop-layer.to (word_in self 0) (word_in c.put_range.new.self 0) (word_in c.args.self.now 0) (word_in c.put_range.new.self 0) (h.untouched first) (λ p. refl) (rw first at put.put))
        | inr later ↦ put_same false c.args.start c.args.end (word_in c.args.self.now 0) (word_in self 0) (word_in c.args.self.now 0) (word_in c.put_range.new.self 0) (λ p. refl) (λ p. put.layers 0 p (omega (arith, later))) (h.blanked (omega (arith, later)))
      ];
      beside = beside_next LAYERS (word_in self) (word_in c.put_range.new.self) layer c.loop-layer.from c.loop-layer.to order h.beside put.put put.layers (shaped c.put_range.new.self).words (shaped self).words c.first_zero_word-from.result c.last_zero_word-to.result c.first_zero_word-from.ensures c.last_zero_word-to.ensures;
      lengths = λ k. put.lengths k ∙ h.lengths k;
    }

-- where something is left of the range, the top layer has been reached
at_top : (c : goal.After-store_top) → c.loop-layer.layer ≡ LAYERS - 1
at_top c = elim c.loop-layer-test.branch [
  | then-loop-layer-test+else-from-to w ↦ absurd (let t = w.if-from-to.false in let u = c.if-from-to-2.true in omega (arith, t, u))
  | else-loop-layer-test w ↦ (let t = w.loop-layer-test.false in let b = c.loop-layer.invariant.layer in omega (arith, t, b))
]

pub returns-then-from-to-2-clause-summed : goal.returns-then-from-to-2-clause-summed
returns-then-from-to-2-clause-summed c =
    let h = c.loop-layer.invariant in
    let last = at_top c in
    let order = c.if-from-to-2.true in
    let short : c.loop-layer.to ≤ 64 = rw last at h.within in
    let self = c.loop-layer.self in
    let cleared = put_one false c.loop-layer.from c.loop-layer.to order (word_in self (LAYERS - 1)) (word_in c.store_top.new.self (LAYERS - 1)) 0 c.bits_within.result
    (λ b small. ap (λ x. bit_at x b) c.store_top.ensures.here ∙ (c.with_bits.ensures.bits b small ∙ ap (λ x. cond (bit_at c.bits_within.result b == 1) (bit_of false) (bit_at x b)) c.top.ensures)) c.bits_within.ensures (omega (arith, order, short)) (omega (arith, short)) c.store_top.ensures.others in
    beside_top LAYERS (word_in self) (word_in c.store_top.new.self) (LAYERS - 1) c.loop-layer.from c.loop-layer.to order (rw last at h.beside) cleared c.store_top.ensures.layers (shaped c.store_top.new.self).words (shaped self).words (omega arith)
