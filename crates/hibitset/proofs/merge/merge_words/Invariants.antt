use Rattle.std.proofs.Common.{◌≡◌, ℕ, ◌≤◌, get_or, length}
use Rattle.hibitset.specs.Merge.{prefix_word, AreWords, Summarizes}
use Rattle.hibitset.proofs.MergeLemmas.{MergedPast}
use Rattle.hibitset.proofs.merge.merge_words.Given as goal

abbrev pub invariant-loop-left : goal.invariant-loop-left
invariant-loop-left g l = record {
  long : length l.slice ≡ length l.initial.slice;
  words : MergedPast (g.O.Operator.merged) (g.B.BitSetLike.word l.fn.other 0) (prefix_word l.fn.len l.initial.slice) (prefix_word l.fn.len l.slice) 1 l.fn.place l.fn.bits l.left;
  others : (p : ℕ) → l.fn.len ≤ p → get_or l.slice p 0 ≡ get_or l.initial.slice p 0;
  bounded : AreWords (λ p. get_or l.initial.slice p 0) → AreWords (λ p. get_or l.slice p 0);
  exact : Summarizes (prefix_word l.fn.len l.slice) l.fn.place l.above;
}

abbrev pub decreases-loop-left : goal.decreases-loop-left
decreases-loop-left g l = l.left
