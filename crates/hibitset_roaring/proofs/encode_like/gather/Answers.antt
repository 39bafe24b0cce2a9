use Rattle.std.proofs.Common.{◌≡◌, ℕ, ◌+◌, ◌-◌, ◌*◌, ◌<◌, get_or, length, sym, ap, ◌∙◌, arith, inl, inr}
use Rattle.std.proofs.lemmas.Bool.{cases_lt}
use Rattle.std.proofs.lemmas.List.{get_or-set_same, get_or-set_other}
use Rattle.hibitset_roaring.specs.Sources.{word_at}
use Rattle.hibitset_roaring.proofs.encode_like.gather.Goals as goal

pub parts-init : goal.parts-init
parts-init g c = record {
  done = λ q below. absurd (omega (arith, below));
  rest = λ q from below. c.requires.zero q below;
  over = λ i below. absurd (omega (arith, below));
}

pub gather_block-requires-clause-zero : goal.gather_block-requires-clause-zero
gather_block-requires-clause-zero g c = λ j small. (let t = c.parts-test.true in c.parts.invariant.rest (64 * c.parts.b + j) (omega arith) (omega (arith, small, t)))

pub parts-preserved : goal.parts-preserved
parts-preserved g c =
    let h = c.parts.invariant in
    let word = g.T.BitSetLike.word c.args.set.now in
    let b : ℕ = c.parts.b in
    let key : ℕ = c.args.key in
    let made = c.gather_block.ensures in
    let new = c.gather_block.new.words in
    let above = c.parts.above in
    let t = c.parts-test.true in
    record {
      done = λ q below. elim (cases_lt q (64 * b)) [
        | inl lower ↦ made.before q lower ∙ h.done q lower
        | inr upper ↦
            let j : ℕ = q - 64 * b in
            let at : 64 * b + j ≡ q = omega (arith, upper) in
            let place : 64 * (16 * key + b) + j ≡ 1024 * key + q = omega (arith, upper) in
            ap (λ p. get_or new p 0) (sym at) ∙ (made.here j (omega (arith, below, upper)) ∙ ap (word_at word) place)
      ];
      rest = λ q from below. made.after q (omega (arith, from)) ∙ h.rest q (omega (arith, from)) below;
      over = λ i below. elim (cases_lt i b) [
        | inl lower ↦ get_or-set_other above b i c.layer1.result 0 (omega (arith, lower)) ∙ h.over i lower
        | inr upper ↦
            let e : i ≡ b = omega (arith, below, upper) in
            let within : b < length above = (let long = c.requires.above in let same = c.parts.auto.above in omega (arith, long, same, t)) in
            rw e (get_or-set_same above b c.layer1.result 0 within ∙ c.layer1.ensures)
      ];
    }

pub returns-clause-words : goal.returns-clause-words
returns-clause-words g c = λ q below. c.parts.invariant.done q (let t = c.parts-test.false in omega (arith, below, t))

pub returns-clause-above : goal.returns-clause-above
returns-clause-above g c = λ i below. c.parts.invariant.over i (let t = c.parts-test.false in omega (arith, below, t))
