use Rattle.std.proofs.Common.{◌≡◌, ℕ, ◌-◌, ◌<◌, ◌≤◌, get_or, length}
use Rattle.hibitset_base.specs.declared.util.TheConstants.{LAYERS}
use Rattle.hibitset.specs.Layout.{layer_len}
use Rattle.hibitset.proofs.layout.lens_over.Given as goal

abbrev pub invariant-loop-layer : goal.invariant-loop-layer
invariant-loop-layer l = record {
  upto : l.layer ≤ LAYERS - 1;
  long : length l.lens ≡ LAYERS - 1;
  words : l.words ≡ layer_len l.layer l.fn.len;
  lens : (k : ℕ) → k < l.layer → get_or l.lens k 0 ≡ layer_len k l.fn.len;
}

abbrev pub decreases-loop-layer : goal.decreases-loop-layer
decreases-loop-layer l = LAYERS - l.layer
