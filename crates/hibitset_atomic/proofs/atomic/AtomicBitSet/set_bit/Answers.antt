use Rattle.std.proofs.Common.{◌%◌, ◌==◌, refl, ap, sym, ◌∙◌, arith, inl, inr}
use Rattle.std.specs.Int.{bit_at}
use Rattle.hibitset_base.specs.Decisions.{same_or_not, eq_same, eq_other}
use Rattle.hibitset_atomic.specs.Layers.{layer_word}
use Rattle.hibitset_base.proofs.MembershipLemmas.{bit_test, holds_put, turned}
use Rattle.hibitset_atomic.specs.AtomicBitSet.{has, word_of}
use Rattle.hibitset_atomic.proofs.atomic.AtomicBitSet.set_bit.Goals as goal

pub returns-then-word-before-clause-was_member : goal.returns-then-word-before-clause-was_member
unfolding has word_of
returns-then-word-before-clause-was_member c =
    sym (bit_test c.args.stands) ∙ ap (λ x. x == 1) (sym c.with_bit-word.ensures.here ∙ ap (λ v. bit_at v (c.args.id % 64)) (c.if-word-before.true ∙ c.layer0-before.ensures))

pub returns-then-word-before-clause-put : goal.returns-then-word-before-clause-put
returns-then-word-before-clause-put c = λ i. elim (same_or_not i c.args.id) [
  | inl e ↦ rw (e, eq_same c.args.id c.args.id refl) (sym (returns-then-word-before-clause-was_member c))
  | inr other ↦ rw (eq_other i c.args.id other) refl
]

pub returns-clause-was_member : goal.returns-clause-was_member
unfolding has word_of
returns-clause-was_member c =
    turned c.layer0-before.result c.with_bit-word.result (c.args.id % 64) c.args.stands (omega arith) (omega arith) c.if-word-before.false c.with_bit-word.ensures.same c.with_bit-word.ensures.here
    ∙ ap (λ v. bit_at v (c.args.id % 64) == 1) c.layer0-before.ensures

pub returns-clause-put : goal.returns-clause-put
unfolding has word_of
returns-clause-put c =
    let put = c.store_word.ensures in
    holds_put (layer_word c.args.self.now.layers) (layer_word c.store_word.new.self) c.args.id c.args.stands
    (ap (λ v. bit_at v (c.args.id % 64)) put.here ∙ c.with_bit-word.ensures.here)
    (λ b small other. ap (λ v. bit_at v b) put.here ∙ (c.with_bit-word.ensures.same b small other ∙ ap (λ v. bit_at v b) c.layer0-before.ensures)) put.others
