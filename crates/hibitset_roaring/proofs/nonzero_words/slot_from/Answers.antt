use Rattle.std.proofs.Common.{◌≡◌, ℕ, ◌+◌, ◌*◌, ◌/◌, ◌%◌, get_or, ap, sym, ◌∙◌, arith, inl, inr}
use Rattle.std.specs.Int.{bit_at}
use Rattle.std.proofs.lemmas.Bool.{cases_lt}
use Rattle.hibitset_roaring.proofs.SlotLemmas.{block_clear, block_low, under_clear, under_zero}
use Rattle.hibitset_roaring.proofs.nonzero_words.slot_from.Goals as goal

pub returns-then-block-eq64-clause-skips : goal.returns-then-block-eq64-clause-skips
returns-then-block-eq64-clause-skips c = λ words summed q from below.
    let all : c.next_bit-block.result ≡ 64 = c.if-block-eq64.true in
    let clear = c.next_bit-block.ensures.skips (q / 64) (omega (arith, from)) (omega (arith, all, below)) in
    under_zero words c.args.above.now c.args.key q summed (block_clear c.args.above.now c.args.key c.args.blocks c.requires.blocks (q / 64) (omega (arith, below)) clear)

pub returns-clause-skips : goal.returns-clause-skips
returns-clause-skips c = λ words summed q from below.
    let block : ℕ = c.next_bit-block.result in
    let bit : ℕ = c.take_bit.result in
    let some = c.if-block-eq64.false in
    let within = c.next_bit-block.ensures.within in
    let low = block_low c.args.above.now c.args.key c.args.blocks c.requires.blocks block (omega (arith, some, within)) (c.next_bit-block.ensures.found (omega (arith, some, within))) in
    let small = c.take_bit.ensures.in_word in
    elim (cases_lt (q / 64) block) [
      | inl before ↦ under_zero words c.args.above.now c.args.key q summed (block_clear c.args.above.now c.args.key c.args.blocks c.requires.blocks (q / 64) (omega (arith, before, low)) (c.next_bit-block.ensures.skips (q / 64) (omega (arith, from)) before))
      | inr after ↦
          let e : q / 64 ≡ block = omega (arith, after, below, small) in
          let clear = c.take_bit.ensures.lowest (q % 64) (omega (arith, e, below)) in
          under_clear words c.args.above.now c.args.key q summed (ap (λ b. bit_at (get_or c.args.above.now (16 * c.args.key + b) 0) (q % 64)) e ∙ (sym (ap (λ w. bit_at w (q % 64)) c.word_or_zero.ensures) ∙ clear))
    ]

pub returns-clause-rest : goal.returns-clause-rest
returns-clause-rest c = λ _.
    let block : ℕ = c.next_bit-block.result in
    let bit : ℕ = c.take_bit.result in
    let taken = c.take_bit.ensures in
    let small = taken.in_word in
    let p : (64 * block + bit) / 64 ≡ block = omega (arith, small) in
    let r : (64 * block + bit) % 64 ≡ bit = omega (arith, small) in
    record {
      upper = λ b after within. taken.same b within (λ e. absurd (omega (arith, e, after, r))) ∙ ap (λ w. bit_at w b) (c.word_or_zero.ensures ∙ ap (λ k. get_or c.args.above.now (16 * c.args.key + k) 0) (sym p));
      lower = λ b upto. elim (cases_lt b bit) [
        | inl before ↦ (let z = taken.lowest b before in let o = taken.same b (omega (arith, before, small)) (λ e. absurd (omega (arith, e, before))) in o ∙ z)
        | inr here ↦ (let e : b ≡ bit = omega (arith, here, upto, r) in rw e taken.bit_cleared)
      ];
    }
