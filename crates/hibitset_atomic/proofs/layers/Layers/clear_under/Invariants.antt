use Rattle.std.proofs.Common.{◌≡◌, ℕ, ◌+◌, ◌*◌, ◌/◌, ◌<◌, vec_capacity}
use Rattle.std.specs.Int.{bit_at}
use Rattle.hibitset_atomic.specs.Layers.{layer_word}
use Rattle.hibitset_atomic.specs.Clear.{IsSameBeside}
use Rattle.hibitset_atomic.proofs.layers.Layers.clear_under.Given as goal

abbrev pub invariant-loop-left : goal.invariant-loop-left
invariant-loop-left l = record {
  here : layer_word l.self 2 l.fn.place ≡ 0;
  layer1 : (b : ℕ) → b < 64 → (bit_at l.left b ≡ 1 → ⊥) → layer_word l.self 1 (64 * l.fn.place + b) ≡ 0;
  layer0 : (b p : ℕ) → b < 64 → (bit_at l.left b ≡ 1 → ⊥) → p / 64 ≡ 64 * l.fn.place + b → layer_word l.self 0 p ≡ 0;
  outside : IsSameBeside (layer_word l.fn.self) (layer_word l.self) l.fn.place;
  top : l.self.layer3 ≡ l.fn.self.layer3;
  blocks : l.self.layer0.places.items ≡ l.fn.self.layer0.places.items;
  room : vec_capacity l.self.layer0.words ≡ vec_capacity l.fn.self.layer0.words;
}

abbrev pub decreases-loop-left : goal.decreases-loop-left
decreases-loop-left l = l.left
