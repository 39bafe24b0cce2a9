use Rattle.std.proofs.Common.{◌≡◌, ℕ, ◌-◌, ◌^◌, ◌<◌, ◌≤◌}
use Rattle.hibitset_base.specs.declared.util.TheConstants.{LAYERS}
use Rattle.hibitset.proofs.assign.end_of.Given as goal

abbrev pub invariant-loop-layer : goal.invariant-loop-layer
invariant-loop-layer g l = record {
  layer : l.layer < LAYERS;
  within : l.end ≤ 64 ^ (LAYERS - 1 - l.layer);
  end : (p : ℕ) → p < 64 ^ (LAYERS - 1 - l.layer) → l.end ≤ p → g.B.BitSetLike.word l.fn.other l.layer p ≡ 0;
}

abbrev pub decreases-loop-layer : goal.decreases-loop-layer
decreases-loop-layer g l = l.layer
