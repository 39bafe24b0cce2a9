use Rattle.std.proofs.Common.{◌≡◌, ◌≢◌, ℕ, ◌-◌, ◌<◌, ◌≤◌}
use Rattle.hibitset.specs.Layers.{word_in, len_in}
use Rattle.hibitset.specs.Merge.{Summarizes}
use Rattle.hibitset.proofs.layers.Layers.sum_layer.Given as goal

abbrev pub invariant-loop-place : goal.invariant-loop-place
invariant-loop-place l = record {
  upto : l.place ≤ len_in l.fn.self l.fn.layer;
  done : (p : ℕ) → p < l.place → Summarizes (word_in l.fn.self (l.fn.layer - 1)) p (word_in l.self l.fn.layer p);
  layers : (k p : ℕ) → k ≢ l.fn.layer → word_in l.self k p ≡ word_in l.fn.self k p;
  lengths : (k : ℕ) → len_in l.self k ≡ len_in l.fn.self k;
}

abbrev pub decreases-loop-place : goal.decreases-loop-place
decreases-loop-place l = len_in l.fn.self l.fn.layer - l.place
