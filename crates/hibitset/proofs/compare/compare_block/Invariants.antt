use Rattle.std.proofs.Common.{◌-◌}
use Rattle.hibitset.specs.BitSet.{word_of}
use Rattle.hibitset.specs.Comparison.{BitsPass}
use Rattle.hibitset.proofs.ComparisonLemmas.{Unmissed}
use Rattle.hibitset.proofs.compare.compare_block.Given as goal

abbrev pub invariant-loop-bit : goal.invariant-loop-bit
invariant-loop-bit g l = Unmissed (λ p. BitsPass (g.C.Comparison.allowed) (word_of l.fn.ours 0 p) (word_of l.fn.theirs 0 p)) l.fn.place l.bit l.missed

abbrev pub decreases-loop-bit : goal.decreases-loop-bit
decreases-loop-bit g l = 64 - l.bit
