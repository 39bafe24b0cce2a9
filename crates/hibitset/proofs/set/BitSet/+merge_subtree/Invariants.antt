use Rattle.std.proofs.Common.{◌≡◌, ◌-◌, ◌^◌}
use Rattle.hibitset.specs.BitSet.{word_of, slice_len}
use Rattle.hibitset.proofs.MergeLemmas.{MergedPast}
use Rattle.hibitset.proofs.set.BitSet.+merge_subtree.Given as goal

abbrev pub decreases-merge_subtree : goal.decreases-merge_subtree
decreases-merge_subtree g l = l.layer

abbrev pub invariant-loop-left : goal.invariant-loop-left
invariant-loop-left g l = record {
  long : slice_len l.self 0 ≡ slice_len l.initial.self 0;
  words : MergedPast (g.O.Operator.merged) (g.B.BitSetLike.word l.fn.other 0) (word_of l.initial.self 0) (word_of l.self 0) (64 ^ (l.fn.layer - 1)) l.fn.place l.visited l.left;
}

abbrev pub decreases-loop-left : goal.decreases-loop-left
decreases-loop-left g l = l.left
