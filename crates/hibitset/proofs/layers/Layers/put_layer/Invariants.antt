use Rattle.std.proofs.Common.{◌≡◌, ◌≢◌, ℕ, ◌-◌, ◌<◌, ◌≤◌, get_or, length}
use Rattle.hibitset.specs.Layers.{word_in, len_in}
use Rattle.hibitset.proofs.layers.Layers.put_layer.Given as goal

abbrev pub invariant-loop-place : goal.invariant-loop-place
invariant-loop-place l = record {
  upto : l.place ≤ length l.words;
  done : (p : ℕ) → p < l.place → word_in l.self l.layer p ≡ get_or l.words p 0;
  layers : (k p : ℕ) → k ≢ l.layer → word_in l.self k p ≡ word_in l.fn.self k p;
  lengths : (k : ℕ) → len_in l.self k ≡ len_in l.fn.self k;
}

abbrev pub decreases-loop-place : goal.decreases-loop-place
decreases-loop-place l = length l.words - l.place
