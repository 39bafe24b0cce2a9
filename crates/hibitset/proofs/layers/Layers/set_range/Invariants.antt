use Rattle.std.proofs.Common.{◌≡◌, ℕ, ◌+◌, ◌-◌, ◌*◌, ◌/◌, ◌^◌, ◌<◌, ◌≤◌, true}
use Rattle.hibitset_base.specs.declared.util.TheConstants.{LAYERS}
use Rattle.hibitset.specs.Layers.{word_in, len_in}
use Rattle.hibitset.specs.WordBits.{PutsRange}
use Rattle.hibitset.proofs.layers.Layers.set_range.Given as goal

-- the layers below this one are done
abbrev pub invariant-loop-layer : goal.invariant-loop-layer
invariant-loop-layer l = record {
  layer : l.layer < LAYERS;
  from : l.from ≡ l.start / 64 ^ l.layer;
  to : l.to ≡ (l.end - 1) / 64 ^ l.layer + 1;
  within : l.to ≤ 64 ^ (LAYERS - l.layer);
  room : l.layer < LAYERS - 1 → l.to ≤ 64 * len_in l.fn.self l.layer;
  done : (k : ℕ) → k < l.layer → PutsRange true (l.start / 64 ^ k) ((l.end - 1) / 64 ^ k + 1) (word_in l.fn.self k) (word_in l.self k);
  rest : (k p : ℕ) → l.layer ≤ k → word_in l.self k p ≡ word_in l.fn.self k p;
  lengths : (k : ℕ) → len_in l.self k ≡ len_in l.fn.self k;
}

abbrev pub decreases-loop-layer : goal.decreases-loop-layer
decreases-loop-layer l = LAYERS - l.layer
