use Rattle.std.proofs.Common.{ℕ, ◌+◌, ◌*◌, ◌/◌, ◌<◌, ◌≤◌, ◌^◌, refl, arith, inl, inr}
use Rattle.std.proofs.lemmas.Bool.{cases_lt}
use Rattle.hibitset_roaring.proofs.MemberLemmas.{bit_off, word_run, turned_off, turned_on}
use Rattle.hibitset_roaring.proofs.runs.next_gap.Goals as goal

pub numbers-init : goal.numbers-init
numbers-init c = record {
  order = omega arith;
  within = c.requires.from;
  all = λ v from below. absurd (omega (arith, from, below));
}

pub numbers-preserved : goal.numbers-preserved
numbers-preserved c =
    let h = c.numbers.invariant in
    let number : ℕ = c.numbers.number in
    let order = h.order in
    let test = c.numbers-test.true in
    let fits : c.word_or_zero.result < 2 ^ 64 = omega (arith, c.word_or_zero.type_inv) in
    let all : 64 ≤ c.next_bit-bit.result = c.if-bit-lt64.false in
    record {
      order = omega (arith, order);
      within = omega (arith, test);
      all = λ v from below. elim (cases_lt v number) [
        | inl lower ↦ h.all v from lower
        | inr upto ↦ word_run c.args.words.now c.args.key number 64 c.word_or_zero.result (omega arith) c.word_or_zero.ensures (λ b low high. turned_off c.word_or_zero.result b fits high (c.next_bit-bit.ensures.skips b low (omega (arith, high, all)))) v upto (omega (arith, below))
      ];
    }

pub returns-then-bit-lt64-clause-all : goal.returns-then-bit-lt64-clause-all
returns-then-bit-lt64-clause-all c = λ v from below.
    let fits : c.word_or_zero.result < 2 ^ 64 = omega (arith, c.word_or_zero.type_inv) in
    let most = c.next_bit-bit.ensures.within in
    elim (cases_lt v c.numbers.number) [
      | inl lower ↦ c.numbers.invariant.all v from lower
      | inr upto ↦ word_run c.args.words.now c.args.key c.numbers.number c.next_bit-bit.result c.word_or_zero.result most c.word_or_zero.ensures (λ b low high. turned_off c.word_or_zero.result b fits (omega (arith, high, most)) (c.next_bit-bit.ensures.skips b low high)) v upto below
    ]

pub returns-then-bit-lt64-clause-found : goal.returns-then-bit-lt64-clause-found
returns-then-bit-lt64-clause-found c = λ _.
    let small = c.if-bit-lt64.true in
    let fits : c.word_or_zero.result < 2 ^ 64 = omega (arith, c.word_or_zero.type_inv) in
    bit_off c.args.words.now c.args.key (c.numbers.number / 64) c.next_bit-bit.result (64 * (c.numbers.number / 64) + c.next_bit-bit.result) c.word_or_zero.result refl small c.word_or_zero.ensures (turned_on c.word_or_zero.result c.next_bit-bit.result fits small (c.next_bit-bit.ensures.found small))

pub returns-clause-found : goal.returns-clause-found
returns-clause-found c = λ small. absurd (let t = c.numbers-test.false in omega (arith, small, t))
