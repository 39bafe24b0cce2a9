use Rattle.hibitset.specs.BitSet.{word_of}
use Rattle.hibitset.specs.Comparison.{BitsPass}
use Rattle.hibitset.proofs.ComparisonLemmas.{PassedPast}
use Rattle.hibitset.proofs.compare.compare_words.Given as goal

abbrev pub invariant-loop-left : goal.invariant-loop-left
invariant-loop-left g l = PassedPast (λ p. BitsPass (g.C.Comparison.allowed) (word_of l.fn.ours 0 p) (word_of l.fn.theirs 0 p)) 1 l.fn.place l.fn.bits l.left

abbrev pub decreases-loop-left : goal.decreases-loop-left
decreases-loop-left g l = l.left
