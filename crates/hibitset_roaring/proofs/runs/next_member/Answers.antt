use Rattle.std.proofs.Common.{ℕ, ◌+◌, ◌*◌, ◌/◌, ◌≤◌, refl, arith, inl, inr}
use Rattle.std.proofs.lemmas.Bool.{cases_lt}
use Rattle.hibitset_roaring.proofs.MemberLemmas.{bit_on, slots_gap, word_gap}
use Rattle.hibitset_roaring.proofs.runs.next_member.Goals as goal

pub numbers-init : goal.numbers-init
numbers-init c = record {
  order = omega arith;
  within = c.requires.from;
  none = λ v from below. absurd (omega (arith, from, below));
}

pub numbers-preserved : goal.numbers-preserved
numbers-preserved c =
    let h = c.numbers.invariant in
    let number : ℕ = c.numbers.number in
    let next : ℕ = c.next_slot-number.result in
    let order = h.order in
    let after = c.next_slot-number.ensures.order in
    let most = c.next_slot-number.ensures.within in
    let all : 64 ≤ c.next_bit-bit.result = c.if-bit-lt64.false in
    record {
      order = omega (arith, order, after);
      within = omega (arith, most);
      none = λ v from below. elim (cases_lt v number) [
        | inl lower ↦ h.none v from lower
        | inr upto ↦ elim (cases_lt v (64 * (number / 64) + 64)) [
          | inl here ↦ word_gap c.args.words.now c.args.key number 64 c.word_or_zero.result (omega arith) c.word_or_zero.ensures (λ b low high. c.next_bit-bit.ensures.skips b low (omega (arith, high, all))) v upto here
          | inr past ↦ slots_gap c.args.words.now c.args.key (number / 64 + 1) next v (c.next_slot-number.ensures.skips c.args.words.now c.requires.summaries) (omega (arith, past)) below
        ]
      ];
    }

pub returns-then-bit-lt64-clause-none_before : goal.returns-then-bit-lt64-clause-none_before
returns-then-bit-lt64-clause-none_before c = λ v from below. elim (cases_lt v c.numbers.number) [
  | inl lower ↦ c.numbers.invariant.none v from lower
  | inr upto ↦ word_gap c.args.words.now c.args.key c.numbers.number c.next_bit-bit.result c.word_or_zero.result c.next_bit-bit.ensures.within c.word_or_zero.ensures c.next_bit-bit.ensures.skips v upto below
]

pub returns-then-bit-lt64-clause-found : goal.returns-then-bit-lt64-clause-found
returns-then-bit-lt64-clause-found c = λ _.
    let small = c.if-bit-lt64.true in
    bit_on c.args.words.now c.args.key (c.numbers.number / 64) c.next_bit-bit.result (64 * (c.numbers.number / 64) + c.next_bit-bit.result) c.word_or_zero.result refl small c.word_or_zero.ensures (c.next_bit-bit.ensures.found small)

pub returns-clause-found : goal.returns-clause-found
returns-clause-found c = λ small. absurd (let t = c.numbers-test.false in omega (arith, small, t))
