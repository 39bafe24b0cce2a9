use Rattle.std.proofs.Common.{◌≡◌, ◌/◌, ◌%◌, ◌<◌, ◌==◌, Some, None, refl, sym, ◌∙◌, ap, arith, inl, inr}
use Rattle.std.specs.Prelude.{if◌then◌else◌}
use Rattle.std.proofs.lemmas.Option.{none-some}
use Rattle.hibitset_base.specs.Decisions.{eq_other, eq_same, same_or_not}
use Rattle.hibitset_base.specs.Words.{holds_at}
use Rattle.hibitset_sparse.specs.Chunks.{word_in}
use Rattle.hibitset_sparse.specs.SparseBitSet.{has, word_of}
use Rattle.hibitset_sparse.specs.Table.{value_at}
use Rattle.hibitset_sparse.proofs.ExactLemmas.{full-summed}
use Rattle.hibitset_sparse.proofs.ReplaceLemmas.{put-full, put-members, same-root}
use Rattle.hibitset_sparse.proofs.SetLemmas.{has_under, holds-under, none-under, root-none}
use Rattle.hibitset_sparse.proofs.set.SparseBitSet.replace_chunk.Goals as goal

pub returns-in_default-clause-members : goal.returns-in_default-clause-members
unfolding has word_of
returns-in_default-clause-members c = λ i low. elim (same_or_not (i / 262144) c.args.c) [
  | inl same ↦
      let none : value_at c.args.self.now.chunks (i / 262144) ≡ None = ap (value_at c.args.self.now.chunks) same ∙ c.in_default.ensures.absent in
      let root : c.args.chunk.words.groups.word ≡ 0 = elim (same_or_not c.args.chunk.words.groups.word 0) [
        | inl empty ↦ empty
        | inr some ↦ absurd (let there = c.requires.has_value (omega (arith, some)) in none-some there.0 (sym c.in_default.ensures.absent ∙ there.1))
      ] in
      rw (eq_same (i / 262144) c.args.c same) (holds-under c.args.self.now.chunks i ∙ (ap (λ o. has_under o (i % 262144)) none ∙ (none-under (i % 262144) ∙ sym (root-none c.args.chunk root (i % 262144)))))
  | inr other ↦ rw (eq_other (i / 262144) c.args.c other) refl
]

pub invariant_of-self : goal.invariant_of-self
invariant_of-self c =
    let full = put-full c.args.self.now.chunks c.remove-chunk.new.self c.args.c None c.remove-chunk.ensures.put (λ x is. absurd (none-some x is)) c.args.self.now.full in
    record { full = full; summed = full-summed c.remove-chunk.new.self full }

pub returns-then-layer2-eq0-clause-members : goal.returns-then-layer2-eq0-clause-members
unfolding has word_of
returns-then-layer2-eq0-clause-members c = λ i low.
    let root : c.args.chunk.words.groups.word ≡ 0 = sym c.layer2.ensures ∙ c.if-layer2-eq0.true in
    put-members c.args.self.now.chunks c.remove-chunk.new.self c.args.c None c.remove-chunk.ensures.put i low
    ∙ ap (λ b. if i / 262144 == c.args.c then b else holds_at (word_in c.args.self.now.chunks) i) (none-under (i % 262144) ∙ sym (root-none c.args.chunk root (i % 262144)))

pub invariant_of-self-2 : goal.invariant_of-self-2
invariant_of-self-2 c =
    let some : 0 < c.args.chunk.words.groups.word = (let is = c.layer2.ensures in let other = c.if-layer2-eq0.false in omega (arith, is, other)) in
    let full = put-full c.args.self.now.chunks c.write.new.self c.args.c (Some c.args.chunk) c.write.ensures.put (λ x. same-root c.args.chunk x some) c.args.self.now.full in
    record { full = full; summed = full-summed c.write.new.self full }

pub returns-clause-members : goal.returns-clause-members
unfolding has word_of
returns-clause-members c = put-members c.args.self.now.chunks c.write.new.self c.args.c (Some c.args.chunk) c.write.ensures.put
