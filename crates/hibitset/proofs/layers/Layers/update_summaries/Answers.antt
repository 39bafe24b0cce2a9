use Rattle.std.proofs.Common.{◌≡◌, ℕ, ◌+◌, ◌-◌, ◌/◌, ◌%◌, ◌<◌, ◌∙◌, arith, lit<}
use Rattle.hibitset_base.specs.declared.util.TheConstants.{LAYERS}
use Rattle.hibitset.specs.Layers.{word_in, len_in}
use Rattle.hibitset.specs.declared.layers.Layers.{Layers}
use Rattle.hibitset.proofs.LayerLemmas.{has_above, shaped}
use Rattle.hibitset.proofs.SummaryUpdateLemmas.{but_top}
use Rattle.hibitset.proofs.ParentBitLemmas.{linked}
use Rattle.hibitset.proofs.layers.Layers.update_summaries.Goals as goal

pub loop-layer-preserved : goal.loop-layer-preserved
loop-layer-preserved c =
    let h = c.loop-layer.invariant in
    let self = c.loop-layer.self in
    let layer : ℕ = c.loop-layer.layer in
    let place : ℕ = c.loop-layer.place in
    let up = c.if-not-update_parent_bit.false in
    record {
      layer = omega arith;
      above = omega arith;
      place = rw (c.update_parent_bit.ensures.lengths (layer + 1)) (has_above self layer place (omega arith) h.place);
      stands = c.update_parent_bit.ensures.stands up;
      summed = c.update_parent_bit.ensures.above up;
      lower = λ k p upto. c.update_parent_bit.ensures.lower k p (omega (arith, upto, h.above)) ∙ h.lower k p upto;
      lengths = λ k. c.update_parent_bit.ensures.lengths k ∙ h.lengths k;
    }

-- the last layer below the top has no more words than the top has bits
below_64 : (x : Layers) (l p : ℕ) → l ≡ LAYERS - 2 → p < len_in x l → p < 64
below_64 x l p is here = let short = (shaped x).short (LAYERS - 2) (lit< tt) in let here_now = rw is at here in omega (arith, short, here_now)

pub with_bit-requires : goal.with_bit-requires
with_bit-requires c = below_64 c.loop-layer.self c.loop-layer.layer c.loop-layer.place (let h = c.loop-layer.invariant.layer in omega (arith, h)) c.loop-layer.invariant.place

pub returns-clause-summed : goal.returns-clause-summed
returns-clause-summed c =
    let h = c.loop-layer.invariant in
    let self = c.loop-layer.self in
    let layer : ℕ = c.loop-layer.layer in
    let place : ℕ = c.loop-layer.place in
    let put = c.store_top.ensures in
    let bit = c.with_bit.ensures in
    let up : layer + 1 ≡ LAYERS - 1 = omega (arith, h.layer) in
    let small : place < 64 = below_64 self layer place (omega (arith, h.layer)) h.place in
    let first : place / 64 ≡ 0 = omega (arith, small) in
    let same : place % 64 ≡ place = omega (arith, small) in
    but_top LAYERS (layer + 1) (place / 64) (word_in c.store_top.new.self) (omega arith)
    (linked self c.store_top.new.self layer place c.top.result c.with_bit.result c.args.stands h.summed h.stands (rw (up, first) c.top.ensures) (rw (up, first) put.here) (rw (up, first) put.others) (rw up put.layers) (rw same bit.same) (rw same bit.here))
