use Rattle.std.proofs.Common.{◌≡◌, ℕ, ◌/◌, ◌%◌, ◌==◌, not, true, get_or, refl, ap, sym, ◌∙◌, arith, inl, inr}
use Rattle.std.proofs.lemmas.Bool.Decides.{nat_tests}
use Rattle.std.specs.Int.{bit_at}
use Rattle.hibitset_base.specs.Decisions.{same_or_not, eq_same, eq_other}
use Rattle.hibitset_base.specs.Sets.{bit_of}
use Rattle.hibitset.specs.BitSet.{word_of, has}
use Rattle.hibitset.specs.Layers.{word_in}
use Rattle.hibitset.proofs.MergeLemmas.{some_word}
use Rattle.hibitset_base.proofs.MembershipLemmas.{bit_test, holds_put, turned}
use Rattle.hibitset.proofs.LayerLemmas.{shaped}
use Rattle.hibitset.proofs.set.BitSet.set_bit.Goals as goal

pub replace_word-requires-clause-before : goal.replace_word-requires-clause-before
replace_word-requires-clause-before c = c.slice.ensures.words (c.args.id / 64)

-- the tests of a bit and its word
test_one : (x : ℕ) → (x == 1) ≡ true → x ≡ 1
test_one x h = grind (arith, nat_tests)

pub replace_word-requires-clause-set : goal.replace_word-requires-clause-set
replace_word-requires-clause-set c set = some_word c.with_bit-word.result (c.args.id % 64) (c.with_bit-word.ensures.here ∙ ap bit_of set)

pub replace_word-requires-clause-cleared : goal.replace_word-requires-clause-cleared
replace_word-requires-clause-cleared c cleared =
    let self = c.args.self.now in
    let before = c.slice.ensures.words (c.args.id / 64) in
    let was = turned (get_or c.slice.result.now (c.args.id / 64) 0) c.with_bit-word.result (c.args.id % 64) c.args.stands (rw before ((shaped self.layers).words 0 (c.args.id / 64))) (omega arith) c.if-word-before.false c.with_bit-word.ensures.same c.with_bit-word.ensures.here in
    some_word (get_or c.slice.result.now (c.args.id / 64) 0) (c.args.id % 64) (test_one _ (sym was ∙ ap not cleared))

pub returns-then-word-before-clause-was_member : goal.returns-then-word-before-clause-was_member
unfolding has word_of
returns-then-word-before-clause-was_member c =
    let before = c.slice.ensures.words (c.args.id / 64) in
    sym (bit_test c.args.stands) ∙ ap (λ x. x == 1) (sym c.with_bit-word.ensures.here ∙ ap (λ v. bit_at v (c.args.id % 64)) (c.if-word-before.true ∙ before))

pub returns-then-word-before-clause-put : goal.returns-then-word-before-clause-put
returns-then-word-before-clause-put c = λ i. elim (same_or_not i c.args.id) [
  | inl e ↦ rw (e, eq_same c.args.id c.args.id refl) (sym (returns-then-word-before-clause-was_member c))
  | inr other ↦ rw (eq_other i c.args.id other) refl
]

pub returns-clause-was_member : goal.returns-clause-was_member
unfolding has word_of
returns-clause-was_member c =
    let self = c.args.self.now in
    let before = c.slice.ensures.words (c.args.id / 64) in
    turned (get_or c.slice.result.now (c.args.id / 64) 0) c.with_bit-word.result (c.args.id % 64) c.args.stands (rw before ((shaped self.layers).words 0 (c.args.id / 64))) (omega arith) c.if-word-before.false c.with_bit-word.ensures.same c.with_bit-word.ensures.here
    ∙ ap (λ v. bit_at v (c.args.id % 64) == 1) before

pub returns-clause-put : goal.returns-clause-put
unfolding word_of has
returns-clause-put c =
    let self = c.args.self.now in
    let word = c.slice.ensures.words (c.args.id / 64) in
    let put : word_in c.replace_word.new.self 0 (c.args.id / 64) ≡ c.with_bit-word.result = c.replace_word.ensures.here in
    holds_put (word_of self) (word_in c.replace_word.new.self) c.args.id c.args.stands
    (ap (λ v. bit_at v (c.args.id % 64)) put ∙ c.with_bit-word.ensures.here)
    (λ b small other. ap (λ v. bit_at v b) put ∙ (c.with_bit-word.ensures.same b small other ∙ ap (λ v. bit_at v b) word)) c.replace_word.ensures.others
