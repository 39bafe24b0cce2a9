use Rattle.std.proofs.Common.{◌^◌, sym, ◌∙◌, inl, inr, ℕ, Bool}
use Rattle.std.proofs.lemmas.Bool.{cases_lt}
use Rattle.hibitset_base.specs.Virtual.{differ}
use Rattle.hibitset_base.specs.Connectives.{is_member}
use Rattle.hibitset_sparse.specs.SparseBitSet.{has}
use Rattle.hibitset_sparse.proofs.AssignLemmas.{empty-member, one-past, one-same, one-within, none-past, replaced}
use Rattle.hibitset_sparse.proofs.SetLemmas.{on_ok}
use Rattle.hibitset_sparse.proofs.set.SparseBitSet.bitxor_assign.Goals as goal

pub returns-clause-members : goal.returns-clause-members
returns-clause-members g c = on_ok c.put_chunks.result c.put_chunks.ensures.members (λ is i. elim (cases_lt i (2 ^ 30)) [
  | inl low ↦
      is i low
      ∙ (replaced (λ j. differ (has c.args.self.now j) (g.B.BitSetLike.holds c.args.other.now j)) (g.B.BitSetLike.holds c.args.other.now) (has c.args.self.now) c.in_ok-chunks.chunks c.in_ok-chunks.ensures
      (λ j small off. one-same (has c.args.self.now j) (g.B.BitSetLike.holds c.args.other.now j) off) i low
      ∙ one-within (has c.args.self.now i) (g.B.BitSetLike.holds c.args.other.now i) i low)
  | inr past ↦ one-past (has c.args.self.now i) (g.B.BitSetLike.holds c.args.other.now i) i (has c.put_chunks.new.self i) past (none-past c.args.self.now i past) (none-past c.put_chunks.new.self i past)
])

pub returns-then-is_empty-clause-members : goal.returns-then-is_empty-clause-members
returns-then-is_empty-clause-members g c = λ i.
    let other : ℕ → Bool = g.B.BitSetLike.holds c.args.other.now in
    sym (one-same (has c.args.self.now i) (is_member other i) (empty-member other i (c.is_empty.ensures.0 c.if-is_empty.true)))
