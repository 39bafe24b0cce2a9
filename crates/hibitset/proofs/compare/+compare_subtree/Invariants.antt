use Rattle.std.proofs.Common.{◌-◌, ◌^◌}
use Rattle.hibitset.specs.BitSet.{word_of}
use Rattle.hibitset.specs.Comparison.{BitsPass}
use Rattle.hibitset.proofs.ComparisonLemmas.{PassedPast}
use Rattle.hibitset.proofs.compare.+compare_subtree.Given as goal

abbrev pub decreases-compare_subtree : goal.decreases-compare_subtree
decreases-compare_subtree g l = l.layer

abbrev pub invariant-loop-left : goal.invariant-loop-left
invariant-loop-left g l = PassedPast (λ p. BitsPass (g.C.Comparison.allowed) (word_of l.fn.ours 0 p) (word_of l.fn.theirs 0 p)) (64 ^ (l.fn.layer - 1)) l.fn.place l.word l.left

abbrev pub decreases-loop-left : goal.decreases-loop-left
decreases-loop-left g l = l.left
