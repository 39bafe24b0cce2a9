use Rattle.std.proofs.Common.{sym, ◌∙◌}
use Rattle.std.specs.Bool.{one_answer}
use Rattle.std.proofs.lemmas.Bool.{false≢true}
use Rattle.hibitset_sparse.specs.SparseBitSet.{has}
use Rattle.hibitset_sparse.proofs.CompareLemmas.{subsets-Decide}
use Rattle.hibitset_sparse.proofs.compare.SparseBitSetPartialEq.eq.Goals as goal

pub returns-then-is_subset : goal.returns-then-is_subset
returns-then-is_subset c =
    let first = c.is_subset.ensures in
    let second = c.is_subset-then-is_subset.ensures in
    one_answer c.is_subset-then-is_subset.result _ (λ e. (first.0 c.if-is_subset.true, second.0 e), λ both. second.1 both.1)
    (subsets-Decide (has c.args.self.now) (has c.args.other.now))

pub returns-else-is_subset : goal.returns-else-is_subset
returns-else-is_subset c =
    one_answer c.is_subset.result _ (λ e. absurd (false≢true (sym c.if-is_subset.false ∙ e)), λ both. c.is_subset.ensures.1 both.0)
    (subsets-Decide (has c.args.self.now) (has c.args.other.now))
