use Rattle.std.proofs.Common.{◌^◌, refl, sym, ◌∙◌, inl, inr}
use Rattle.std.proofs.lemmas.Bool.{cases_lt}
use Rattle.hibitset_base.specs.Virtual.{differ}
use Rattle.hibitset_sparse.specs.SparseBitSet.{has}
use Rattle.hibitset_sparse.proofs.AssignLemmas.{none-if-empty, one-same, none-past, replaced}
use Rattle.hibitset_sparse.proofs.SetLemmas.{on_ok}
use Rattle.hibitset_sparse.proofs.set.SparseBitSet.symmetric_difference_with.Goals as goal

pub returns-clause-members : goal.returns-clause-members
returns-clause-members c = on_ok c.put_chunks.result c.put_chunks.ensures.members (λ is i. elim (cases_lt i (2 ^ 30)) [
  | inl low ↦
      is i low
      ∙ replaced (λ j. (differ (has c.args.self.now j) (has c.args.other.now j))) (has c.args.other.now) (has c.args.self.now) c.in_ok-chunks.chunks c.in_ok-chunks.ensures
      (λ j small off. one-same (has c.args.self.now j) (has c.args.other.now j) off) i low
  | inr past ↦
      let old = none-past c.args.self.now i past in
      let other = none-past c.args.other.now i past in
      let new = none-past c.put_chunks.new.self i past in
      rw (old, other, new) refl
])

pub returns-then-is_empty-clause-members : goal.returns-then-is_empty-clause-members
returns-then-is_empty-clause-members c = λ i. sym (one-same (has c.args.self.now i) (has c.args.other.now i) (none-if-empty c.args.other.now i (c.is_empty.ensures.0 c.if-is_empty.true)))
