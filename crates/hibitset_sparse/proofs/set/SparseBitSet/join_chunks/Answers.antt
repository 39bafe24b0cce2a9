use Rattle.std.proofs.Common.{◌≡◌, ℕ, ◌/◌, ◌%◌, sym, ◌∙◌, ap, arith}
use Rattle.hibitset_sparse.specs.Chunks.{AreFull}
use Rattle.hibitset_sparse.specs.Replacement.{has_in_or, later}
use Rattle.hibitset_sparse.specs.SparseBitSet.{has, word_of}
use Rattle.hibitset_sparse.specs.Table.{value_at}
use Rattle.hibitset_sparse.proofs.ExactLemmas.{full-summed}
use Rattle.hibitset_sparse.proofs.JoinLemmas.{later-full, later-members}
use Rattle.hibitset_sparse.proofs.SetLemmas.{has_under, holds-under}
use Rattle.hibitset_sparse.proofs.set.SparseBitSet.join_chunks.Goals as goal

pub invariant_of-self : goal.invariant_of-self
invariant_of-self c =
    let own = c.args.self.now.chunks in
    let full : AreFull c.join_tables.result = λ d chunk low is.
    later-full (value_at own d) (value_at c.args.chunks d) (λ x there. c.args.self.now.full d x low there) chunk
    (sym (c.join_tables.ensures d low ∙ ap (λ t. later (value_at t d) (value_at c.args.chunks d)) c.replace-own.ensures.value) ∙ is) in
    record { full = full; summed = full-summed c.join_tables.result full }

pub returns-clause-members : goal.returns-clause-members
unfolding has word_of
returns-clause-members c = λ i low.
    let own = c.args.self.now.chunks in
    let d : ℕ = i / 262144 in
    let joined : value_at c.join_tables.result d ≡ later (value_at own d) (value_at c.args.chunks d) =
    c.join_tables.ensures d (omega (arith, low)) ∙ ap (λ t. later (value_at t d) (value_at c.args.chunks d)) c.replace-own.ensures.value in
    holds-under c.join_tables.result i
    ∙ (ap (λ o. has_under o (i % 262144)) joined
    ∙ (later-members (value_at own d) (value_at c.args.chunks d) i ∙ ap (has_in_or (value_at c.args.chunks d) i) (sym (holds-under own i))))
