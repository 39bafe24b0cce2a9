use Rattle.std.proofs.Common.{◌≡◌, ℕ, ◌+◌, ◌*◌, ◌/◌, ◌%◌, ◌<◌, ◌≤◌, ◌==◌, ◌||◌, ◌⊎◌, false, get_or, length, bit_or, ap, ◌∙◌, sym, refl, arith, inl, inr}
use Rattle.std.specs.Int.{bit_at}
use Rattle.std.proofs.lemmas.Bool.{cases_lt}
use Rattle.std.proofs.lemmas.Bool.Decides.{nat_tests}
use Rattle.std.proofs.lemmas.List.{get_or-set_same, get_or-set_other}
use Rattle.std.proofs.Math.Bool.{or-false}
use Rattle.hibitset_base.specs.Sets.{bit_of}
use Rattle.hibitset_base.proofs.MembershipLemmas.{bit_test}
use Rattle.hibitset.specs.WordBits.{stands_in, in_range}
use Rattle.hibitset.specs.Operators.{or_bits}
use Rattle.hibitset_roaring.proofs.words.set_some.Goals as goal

pub slots-init : goal.slots-init
slots-init c = record { done = λ p b from upto small. absurd (omega (arith, from, upto)); rest = λ p out. refl }

pub slots-preserved : goal.slots-preserved
slots-preserved c =
    let h = c.slots.invariant in
    let slot : ℕ = c.slots.slot in
    let words = c.slots.words in
    let mask : ℕ = c.bits_within.result in
    let word : ℕ = bit_or (get_or words slot 0) mask in
    let from : c.args.start / 64 ≤ slot = omega arith in
    let within : slot < length words = (let t = c.slots-test.true in let room = c.requires.long_enough in let same = c.slots.auto.words in omega (arith, t, room, same)) in
    record {
      done = λ p b lower upto small. elim (cases_lt p slot) [
        | inl less ↦ ap (λ x. bit_at x b) (get_or-set_other words slot p word 0 (omega (arith, less))) ∙ h.done p b lower less small
        | inr more ↦ (let e : p ≡ slot = omega (arith, upto, more) in rw e
            (ap (λ x. bit_at x b) (get_or-set_same words slot word 0 within) ∙ (or_bits (get_or words slot 0) mask b
            ∙ (ap (λ x. bit_of ((bit_at x b == 1) || (bit_at mask b == 1))) (h.rest slot (inr (omega arith)))
            ∙ ap (λ t. bit_of ((bit_at (get_or c.args.words.now slot 0) b == 1) || t)) (ap (λ x. x == 1) (c.bits_within.ensures b small) ∙ bit_test (in_range c.args.start c.args.end (64 * slot + b)))))))
      ];
      rest = λ p out. elim out [
        | inl lower ↦ get_or-set_other words slot p word 0 (omega (arith, lower, from)) ∙ h.rest p (inl lower)
        | inr upper ↦ get_or-set_other words slot p word 0 (omega (arith, upper)) ∙ h.rest p (inr (omega (arith, upper)))
      ];
    }

outside : (start end i : ℕ) → (i / 64 < start / 64) ⊎ ((end + 63) / 64 ≤ i / 64) → in_range start end i ≡ false
outside start end i out = elim out [
  | inl lower ↦ (let l : i < start = omega (arith, lower) in grind (arith, nat_tests))
  | inr upper ↦ (let u : end ≤ i = omega (arith, upper) in grind (arith, nat_tests))
]

pub returns : goal.returns
returns c = λ i.
    let h = c.slots.invariant in
    let test = c.slots-test.false in
    let start : ℕ = c.args.start in
    let end : ℕ = c.args.end in
    let old = c.args.words.now in
    let none : (i / 64 < start / 64) ⊎ ((end + 63) / 64 ≤ i / 64) → stands_in c.slots.words i ≡ (stands_in old i || in_range start end i) = λ out.
    ap (λ x. bit_at x (i % 64) == 1) (h.rest (i / 64) (elim out [ inl lower ↦ inl lower | inr upper ↦ inr (let e = c.slots.auto.slot-end in let o = c.requires.order in omega (arith, upper, e, o)) ]))
    ∙ sym (ap (λ t. stands_in old i || t) (outside start end i out) ∙ or-false (stands_in old i)) in
    elim (cases_lt (i / 64) (start / 64)) [
      | inl lower ↦ none (inl lower)
      | inr from ↦ elim (cases_lt (i / 64) ((end + 63) / 64)) [
        | inl upto ↦
            let whole : 64 * (i / 64) + i % 64 ≡ i = omega arith in
            ap (λ x. x == 1) (h.done (i / 64) (i % 64) from (omega (arith, upto, test)) (omega arith)) ∙ (bit_test ((bit_at (get_or old (i / 64) 0) (i % 64) == 1) || in_range start end (64 * (i / 64) + i % 64)) ∙ ap (λ n. stands_in old i || in_range start end n) whole)
        | inr past ↦ none (inr past)
      ]
    ]
