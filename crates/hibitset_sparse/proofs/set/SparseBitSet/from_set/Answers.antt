use Rattle.std.proofs.Common.{◌≡◌, ◌^◌, ◌∙◌, false, sym, inl, inr, ℕ, Bool}
use Rattle.std.proofs.lemmas.Bool.{cases_lt}
use Rattle.hibitset_sparse.specs.Decisions.{lt_no, lt_yes}
use Rattle.hibitset_sparse.proofs.AssignLemmas.{empty-member, none-past, replaced}
use Rattle.hibitset_sparse.proofs.set.SparseBitSet.from_set.Goals as goal

pub returns-clause-members : goal.returns-clause-members
returns-clause-members g c = λ i.
    let other = g.B.BitSetLike.holds c.args.other.now in
    elim (cases_lt i (2 ^ 30)) [
      | inl low ↦ rw (lt_yes i (2 ^ 30) low) (c.of_chunks.ensures i low
          ∙ replaced other other (λ _. false) c.in_ok-chunks.chunks c.in_ok-chunks.ensures (λ j small off. off) i low)
      | inr past ↦ rw (lt_no i (2 ^ 30) past) (none-past c.of_chunks.result i past)
    ]

pub returns-then-is_empty-clause-members : goal.returns-then-is_empty-clause-members
returns-then-is_empty-clause-members g c = λ i.
    let other : ℕ → Bool = g.B.BitSetLike.holds c.args.other.now in
    c.new.ensures i ∙ sym (empty-member other i (c.is_empty.ensures.0 c.if-is_empty.true))
