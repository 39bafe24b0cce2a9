use Rattle.std.proofs.Common.{◌≡◌, ℕ, ◌+◌, ◌-◌, ◌<◌, ◌≤◌}
use Rattle.hibitset_base.specs.declared.util.TheConstants.{LAYERS}
use Rattle.hibitset.specs.Layers.{word_in, len_in}
use Rattle.hibitset.specs.Merge.{Summarizes}
use Rattle.hibitset.proofs.layers.Layers.sum_layers.Given as goal

abbrev pub invariant-loop-layer : goal.invariant-loop-layer
invariant-loop-layer l = record {
  some : 0 < l.layer;
  upto : l.layer ≤ LAYERS - 1;
  summed : (k p : ℕ) → k + 1 < l.layer → Summarizes (word_in l.self k) p (word_in l.self (k + 1) p);
  words : (p : ℕ) → word_in l.self 0 p ≡ word_in l.fn.self 0 p;
  lengths : (k : ℕ) → len_in l.self k ≡ len_in l.fn.self k;
}

abbrev pub decreases-loop-layer : goal.decreases-loop-layer
decreases-loop-layer l = LAYERS - l.layer
