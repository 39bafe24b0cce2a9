use Rattle.std.proofs.Common.{◌≡◌, ℕ, ◌<◌, ◌^◌, vec_capacity}
use Rattle.std.specs.Int.{bit_at}
use Rattle.hibitset_atomic.specs.Layers.{layer_word}
use Rattle.hibitset_atomic.specs.Clear.{IsCovered, IsClearUnder}
use Rattle.hibitset_atomic.proofs.layers.Layers.clear.Given as goal

abbrev pub invariant-loop-left : goal.invariant-loop-left
invariant-loop-left l = record {
  top : l.self.layer3 ≡ 0;
  blocks : l.self.layer0.places.items ≡ l.fn.self.layer0.places.items;
  room : vec_capacity l.self.layer0.words ≡ vec_capacity l.fn.self.layer0.words;
  fits : l.left < 2 ^ 64;
  covered : IsCovered (layer_word l.self);
  clear : (q : ℕ) → (bit_at l.left q ≡ 1 → ⊥) → IsClearUnder (layer_word l.self) q;
}

abbrev pub decreases-loop-left : goal.decreases-loop-left
decreases-loop-left l = l.left
