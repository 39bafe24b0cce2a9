use Rattle.std.proofs.Common.{refl, ◌∙◌, arith}
use Rattle.hibitset_atomic.specs.Layers.{layer_word, single_word}
use Rattle.hibitset_atomic.proofs.ClearLemmas.{covered_if, clear_if, none_under_top, covered_more, clear_more}
use Rattle.hibitset_atomic.proofs.layers.Layers.clear.Goals as goal

pub loop-left-init : goal.loop-left-init
loop-left-init c =
    let self = c.args.self.now in
    let covered = covered_if (layer_word self) c.requires in
    record {
      top = refl;
      blocks = refl;
      room = refl;
      fits = self.fits.2;
      covered = record { layer1 = covered.layer1; layer0 = covered.layer0 };
      clear = λ q off. (let clear = clear_if (layer_word self) q covered (none_under_top (layer_word self) q c.requires (single_word self) off) in record { layer2 = clear.layer2; layer1 = clear.layer1; layer0 = clear.layer0 });
    }

pub loop-left-preserved : goal.loop-left-preserved
loop-left-preserved c =
    let i = c.loop-left in
    let bit = c.take_bit.ensures in
    let e = c.clear_under.ensures in
    record {
      top = e.top ∙ i.invariant.top;
      blocks = e.blocks ∙ i.invariant.blocks;
      room = e.same_capacity ∙ i.invariant.room;
      fits = (let less = bit.less in let fits = i.invariant.fits in omega (arith, less, fits));
      covered = covered_more (layer_word i.self) (layer_word c.clear_under.new.self) c.take_bit.result e.inside e.outside i.invariant.covered;
      clear = clear_more (layer_word i.self) (layer_word c.clear_under.new.self) c.take_bit.result e.inside e.outside i.left c.take_bit.new.word i.invariant.fits bit.same i.invariant.clear;
    }
