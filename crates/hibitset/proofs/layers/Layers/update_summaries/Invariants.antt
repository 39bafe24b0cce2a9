use Rattle.std.proofs.Common.{◌≡◌, ℕ, ◌-◌, ◌<◌, ◌≤◌, ◌==◌, not}
use Rattle.hibitset_base.specs.declared.util.TheConstants.{LAYERS}
use Rattle.hibitset.specs.Layout.{SummariesExactExceptAt}
use Rattle.hibitset.specs.Layers.{word_in, len_in}
use Rattle.hibitset.proofs.layers.Layers.update_summaries.Given as goal

abbrev pub invariant-loop-layer : goal.invariant-loop-layer
invariant-loop-layer l = record {
  layer : l.layer < LAYERS - 1;
  above : l.fn.layer ≤ l.layer;
  place : l.place < len_in l.self l.layer;
  stands : not (word_in l.self l.layer l.place == 0) ≡ l.fn.stands;
  summed : SummariesExactExceptAt LAYERS (word_in l.self) l.layer l.place;
  lower : (k p : ℕ) → k ≤ l.fn.layer → word_in l.self k p ≡ word_in l.initial.self k p;
  lengths : (k : ℕ) → len_in l.self k ≡ len_in l.initial.self k;
}

abbrev pub decreases-loop-layer : goal.decreases-loop-layer
decreases-loop-layer l = LAYERS - l.layer
