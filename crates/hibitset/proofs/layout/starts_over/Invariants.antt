use Rattle.std.proofs.Common.{◌≡◌, ℕ, ◌-◌, ◌<◌, ◌≤◌, get_or, length}
use Rattle.hibitset_base.specs.declared.util.TheConstants.{LAYERS}
use Rattle.hibitset.specs.Layout.{layer_len, layer_start}
use Rattle.hibitset.proofs.layout.starts_over.Given as goal

abbrev pub invariant-loop-layer : goal.invariant-loop-layer
invariant-loop-layer l = record {
  upto : l.layer ≤ LAYERS - 1;
  long : length l.starts ≡ LAYERS - 1;
  words : l.words ≡ layer_len l.layer l.fn.room;
  at : l.at ≡ layer_start l.layer l.fn.room;
  starts : (k : ℕ) → k < l.layer → get_or l.starts k 0 ≡ layer_start k l.fn.room;
}

abbrev pub decreases-loop-layer : goal.decreases-loop-layer
decreases-loop-layer l = LAYERS - l.layer
