use Rattle.std.proofs.Common.{◌≡◌, ◌≢◌, ◌⊎◌, ℕ, ◌-◌, ◌<◌, ◌≤◌}
use Rattle.hibitset.specs.Layers.{word_in, len_in}
use Rattle.hibitset.proofs.layers.Layers.put_words.Given as goal

abbrev pub invariant-loop-place : goal.invariant-loop-place
invariant-loop-place l = record {
  upto : l.from ≤ l.place;
  within : l.place ≤ l.to;
  inside : (p : ℕ) → l.from ≤ p → p < l.place → word_in l.self l.layer p ≡ l.word;
  outside : (p : ℕ) → (p < l.from) ⊎ (l.place ≤ p) → word_in l.self l.layer p ≡ word_in l.fn.self l.layer p;
  layers : (k p : ℕ) → k ≢ l.layer → word_in l.self k p ≡ word_in l.fn.self k p;
  lengths : (k : ℕ) → len_in l.self k ≡ len_in l.fn.self k;
}

abbrev pub decreases-loop-place : goal.decreases-loop-place
decreases-loop-place l = l.to - l.place
