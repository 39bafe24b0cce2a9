use Rattle.std.proofs.Common.{◌≡◌, ℕ, ◌-◌, ◌/◌, ◌%◌, ◌^◌}
use Rattle.std.specs.Int.{bit_at}
use Rattle.hibitset.proofs.assign.+end_of_subtree.Given as goal

abbrev pub decreases-end_of_subtree : goal.decreases-end_of_subtree
decreases-end_of_subtree g l = l.layer

abbrev pub invariant-loop-left : goal.invariant-loop-left
invariant-loop-left g l = record {
  rest : (p : ℕ) → p / 64 ^ l.fn.layer ≡ l.fn.place → bit_at l.left (p / 64 ^ (l.fn.layer - 1) % 64) ≡ 0 → g.B.BitSetLike.word l.fn.other 0 p ≡ 0;
}

abbrev pub decreases-loop-left : goal.decreases-loop-left
decreases-loop-left g l = l.left
