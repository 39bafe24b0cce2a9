use Rattle.std.proofs.Common.{◌≡◌, ℕ, ◌-◌, ◌<◌, ◌≤◌, List, length}
use Rattle.hibitset_base.specs.declared.util.TheConstants.{LAYERS}
use Rattle.hibitset.specs.Layout.{room_of, count_of, IsLayout, AreMovedFrom}
use Rattle.hibitset.proofs.layout.move_layers.Given as goal

abbrev pub invariant-loop-layer : goal.invariant-loop-layer
invariant-loop-layer l = record {
  some : 0 < l.layer;
  upto : l.layer ≤ LAYERS - 1;
  long : length l.words.items ≡ length l.initial.words.items;
  moved : (old : List ℕ) (top : ℕ) → IsLayout LAYERS old (room_of l.fn.from) (count_of l.fn.lens) top → AreMovedFrom LAYERS l.fn.lens l.fn.from l.fn.to (LAYERS - 1) old l.initial.words.items → AreMovedFrom LAYERS l.fn.lens l.fn.from l.fn.to l.layer old l.words.items;
}

abbrev pub decreases-loop-layer : goal.decreases-loop-layer
decreases-loop-layer l = l.layer
