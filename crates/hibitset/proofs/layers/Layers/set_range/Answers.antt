use Rattle.std.proofs.Common.{◌≡◌, ℕ, ◌+◌, ◌-◌, ◌/◌, ◌^◌, ◌<◌, ◌≤◌, ap, ◌∙◌, refl, true, arith, lit<, ◌==◌, cond, inl, inr}
use Rattle.std.specs.Int.{bit_at}
use Rattle.hibitset_base.specs.Decisions.{same_or_not}
use Rattle.hibitset_base.specs.Sets.{bit_of}
use Rattle.hibitset_base.specs.declared.util.TheConstants.{LAYERS}
use Rattle.hibitset.specs.Layers.{word_in}
use Rattle.hibitset.specs.WordBits.{PutsRange}
use Rattle.hibitset.proofs.LayerLemmas.{shaped}
use Rattle.hibitset.proofs.RangeFillLemmas.{within_next, room_next, up, put_one, put_same, filled_summed}
use Rattle.hibitset.proofs.layers.Layers.set_range.Goals as goal

pub loop-layer-preserved : goal.loop-layer-preserved
loop-layer-preserved c =
    let layer : ℕ = c.loop-layer.layer in
    let h = c.loop-layer.invariant in
    let below = c.loop-layer-test.true in
    let filled = c.put_range.ensures in
    let to-is : c.loop-layer.to - 1 ≡ (c.args.end - 1) / 64 ^ layer = (let t = h.to in omega (arith, t)) in
    record {
      layer = omega (arith, below);
      from = ap (λ x. x / 64) h.from ∙ up c.args.start layer;
      to = ap (λ x. x / 64 + 1) to-is ∙ ap (λ x. x + 1) (up (c.args.end - 1) layer);
      within = within_next LAYERS layer c.loop-layer.to (omega (arith, below)) h.within;
      room = λ upper. room_next c.args.self.now layer c.loop-layer.to upper (let t = h.to in omega (arith, t)) (h.room below);
      done = λ k upto. elim (same_or_not k layer) [
        | inl is ↦ rw (is, ← h.from, ← h.to) (put_same true c.loop-layer.from c.loop-layer.to (word_in c.loop-layer.self layer) (word_in c.put_range.new.self layer) (word_in c.args.self.now layer) (word_in c.put_range.new.self layer) (λ p. h.rest layer p (omega arith)) (λ p. refl) filled.put)
        | inr other ↦ put_same true _ _ (word_in c.args.self.now k) (word_in c.loop-layer.self k) (word_in c.args.self.now k) (word_in c.put_range.new.self k) (λ p. refl) (λ p. filled.layers k p other) (h.done k (omega (arith, upto, other)))
      ];
      rest = λ k p upto. filled.layers k p (omega (arith, upto)) ∙ h.rest k p (omega (arith, upto));
      lengths = λ k. filled.lengths k ∙ h.lengths k;
    }

-- all layers are done
all_filled : (c : goal.After-store_top) → (l : ℕ) → l < LAYERS → PutsRange true (c.args.start / 64 ^ l) ((c.args.end - 1) / 64 ^ l + 1) (word_in c.args.self.now l) (word_in c.store_top.new.self l)
all_filled c l within =
    let h = c.loop-layer.invariant in
    let test = c.loop-layer-test.false in
    let below = h.layer in
    let last : c.loop-layer.layer ≡ LAYERS - 1 = omega (arith, test, below) in
    elim (same_or_not l (LAYERS - 1)) [
      | inl is ↦
          let from-is : c.loop-layer.from ≡ c.args.start / 64 ^ (LAYERS - 1) = rw last at h.from in
          let to-is : c.loop-layer.to ≡ (c.args.end - 1) / 64 ^ (LAYERS - 1) + 1 = rw last at h.to in
          let short : c.loop-layer.to ≤ 64 = rw last at h.within in
          let order : c.loop-layer.from < c.loop-layer.to = (let o = c.requires.order in omega (arith, from-is, to-is, o)) in
          let top : word_in c.loop-layer.self (LAYERS - 1) 0 ≡ word_in c.args.self.now (LAYERS - 1) 0 = h.rest (LAYERS - 1) 0 (omega (arith, last)) in
          rw (is, ← from-is, ← to-is)
          (put_one true c.loop-layer.from c.loop-layer.to order (word_in c.args.self.now (LAYERS - 1)) (word_in c.store_top.new.self (LAYERS - 1)) 0 c.bits_within.result
          (λ b small. ap (λ x. bit_at x b) c.store_top.ensures.here ∙ (c.with_bits.ensures.bits b small ∙ ap (λ x. cond (bit_at c.bits_within.result b == 1) (bit_of true) (bit_at x b)) (c.top.ensures ∙ top))) c.bits_within.ensures (omega (arith, order, short)) (omega (arith, short))
          (λ p other. c.store_top.ensures.others p other ∙ h.rest (LAYERS - 1) p (omega (arith, last))))
      | inr other ↦ put_same true _ _ (word_in c.args.self.now l) (word_in c.loop-layer.self l) (word_in c.args.self.now l) (word_in c.store_top.new.self l) (λ p. refl) (λ p. c.store_top.ensures.layers l p other) (h.done l (omega (arith, within, other, last)))
    ]

pub returns-clause-filled : goal.returns-clause-filled
returns-clause-filled c =
    let first = all_filled c 0 (lit< tt) in
    let from-is : c.args.start / 64 ^ 0 ≡ c.args.start = omega arith in
    let to-is : (c.args.end - 1) / 64 ^ 0 + 1 ≡ c.args.end = (let o = c.requires.order in omega (arith, o)) in
    rw (from-is, to-is) at first

pub returns-clause-summed : goal.returns-clause-summed
returns-clause-summed c = filled_summed LAYERS (word_in c.args.self.now) (word_in c.store_top.new.self) c.args.start c.args.end c.requires.order c.requires.summed (shaped c.store_top.new.self).words (shaped c.args.self.now).words (all_filled c)
