use Rattle.std.proofs.Common.{◌≡◌, ℕ, ◌+◌, ◌*◌, ◌∙◌, arith, inl, inr}
use Rattle.std.proofs.lemmas.Bool.{cases_lt}
use Rattle.hibitset_roaring.proofs.FrameLemmas.{before_both, before_less, u64_same}
use Rattle.hibitset_roaring.proofs.encode_container.write_words_of.Goals as goal

pub words-preserved : goal.words-preserved
words-preserved c =
    let h = c.words.invariant in
    let at : ℕ = c.args.at in
    let j : ℕ = c.words.j in
    let before = c.put_u64.ensures.before in
    record {
      before = before_both at c.args.out.now c.words.out c.put_u64.new.out h.before (before_less (at + 8 * j) at c.words.out c.put_u64.new.out (omega arith) before);
      same = λ q below. elim (cases_lt q j) [
        | inl lower ↦ u64_same (at + 8 * j) c.words.out c.put_u64.new.out before (at + 8 * q) (omega (arith, lower)) ∙ h.same q lower
        | inr upper ↦ (let e : q ≡ j = omega (arith, below, upper) in rw e c.put_u64.ensures.here)
      ];
    }

pub returns-clause-here : goal.returns-clause-here
returns-clause-here c = λ q below. c.words.invariant.same q (let t = c.words-test.false in omega (arith, below, t))
