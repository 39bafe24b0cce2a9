use Rattle.std.proofs.Common.{◌≡◌, ℕ, ◌/◌, ◌%◌, ◌==◌, get_or, ap, sym, ◌∙◌}
use Rattle.std.specs.Int.{bit_at}
use Rattle.std.specs.Cmp.Lexicographic.{pointwise_decides}
use Rattle.std.proofs.lemmas.Bool.Decides.{Decides-eqb}
use Rattle.hibitset_c.specs.LentSet.{has, word_of}
use Rattle.hibitset_c.specs.declared.lent_set.LentSet.{LentSet}
use Rattle.hibitset_c.proofs.pair.hibitset_equals.Goals as goal

-- the same words are the same members
same : (a b : LentSet) → a.layer0.now ≡ b.layer0.now → (i : ℕ) → has a i ≡ has b i
unfolding has word_of
same a b e i = ap (λ words. bit_at (get_or words (i / 64) 0) (i % 64) == 1) e

pub returns-then-eq : goal.returns-then-eq
returns-then-eq c =
    let a = c.args.a.now in let b = c.args.b.now in
    let e : a.layer0.now ≡ b.layer0.now = (pointwise_decides Decides-eqb a.layer0.now b.layer0.now).0 (sym c.eq.ensures ∙ c.if-eq.true) in
    (λ _. (λ i below on. sym (same a b e i) ∙ on, λ i below on. same a b e i ∙ on), λ _. c.if-eq.true)
