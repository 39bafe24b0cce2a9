use Rattle.std.proofs.Common.{◌≡◌, ℕ, ◌+◌, ◌-◌, ◌^◌, ◌<◌, ◌≤◌, get_or, length}
use Rattle.hibitset_base.specs.declared.util.TheConstants.{LAYERS}
use Rattle.hibitset.specs.Layout.{layer_len, layer_start, count_of}
use Rattle.hibitset.specs.Layers.{word_in}
use Rattle.hibitset.proofs.layers.Layers.copy.Given as goal

abbrev pub invariant-loop-layer : goal.invariant-loop-layer
invariant-loop-layer l = record {
  upto : l.layer ≤ LAYERS - 1;
  long : length l.words.items ≡ layer_start l.layer (count_of l.fn.self.lens);
  words : (k p : ℕ) → k < l.layer → p < layer_len k (count_of l.fn.self.lens) → get_or l.words.items (layer_start k (count_of l.fn.self.lens) + p) 0 ≡ word_in l.fn.self k p;
  fits : (at : ℕ) → get_or l.words.items at 0 < 2 ^ 64;
}

abbrev pub decreases-loop-layer : goal.decreases-loop-layer
decreases-loop-layer l = LAYERS - l.layer
