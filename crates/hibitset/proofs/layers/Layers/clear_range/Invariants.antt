use Rattle.std.proofs.Common.{◌≡◌, ℕ, ◌-◌, ◌*◌, ◌^◌, ◌<◌, ◌≤◌, false}
use Rattle.hibitset_base.specs.declared.util.TheConstants.{LAYERS}
use Rattle.hibitset.specs.Layers.{word_in, len_in}
use Rattle.hibitset.specs.WordBits.{PutsRange, SummariesExactOutside}
use Rattle.hibitset.proofs.layers.Layers.clear_range.Given as goal

-- the range is cleared in the layers below this one, and what is left of it here lies over zero words
abbrev pub invariant-loop-layer : goal.invariant-loop-layer
invariant-loop-layer l = record {
  layer : l.layer < LAYERS;
  within : l.to ≤ 64 ^ (LAYERS - l.layer);
  room : l.layer < LAYERS - 1 → l.to ≤ 64 * len_in l.fn.self l.layer;
  begun : l.layer ≡ 0 → (l.from ≡ l.start) × (l.to ≡ l.end);
  untouched : l.layer ≡ 0 → (p : ℕ) → word_in l.self 0 p ≡ word_in l.fn.self 0 p;
  blanked : 0 < l.layer → PutsRange false l.start l.end (word_in l.fn.self 0) (word_in l.self 0);
  beside : SummariesExactOutside LAYERS (word_in l.self) l.layer l.from l.to;
  lengths : (k : ℕ) → len_in l.self k ≡ len_in l.fn.self k;
}

abbrev pub decreases-loop-layer : goal.decreases-loop-layer
decreases-loop-layer l = LAYERS - l.layer
