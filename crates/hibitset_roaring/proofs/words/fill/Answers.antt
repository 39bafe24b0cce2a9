use Rattle.std.proofs.Common.{◌≡◌, ℕ, ◌-◌, ◌*◌, ◌/◌, ◌%◌, ◌^◌, ◌<◌, ◌≤◌, ◌==◌, ◌||◌, ◌⊎◌, true, false, length, ap, ◌∙◌, sym, refl, arith, inl, inr}
use Rattle.std.specs.Prelude.{nat_lt}
use Rattle.std.specs.Int.{bit_at}
use Rattle.std.proofs.lemmas.Bool.{cases_lt, lt-ltb}
use Rattle.std.proofs.lemmas.Bool.Decides.{nat_tests}
use Rattle.std.proofs.lemmas.List.{get_or-set_same, get_or-set_other}
use Rattle.std.proofs.Math.Bool.{or-true, or-false}
use Rattle.hibitset_base.proofs.MembershipLemmas.{bit_test}
use Rattle.hibitset.specs.WordBits.{stands_in, in_range}
use Rattle.hibitset_base.proofs.BitLemmas.{low_at}
use Rattle.hibitset_roaring.proofs.words.fill.Goals as goal

pub slots-init : goal.slots-init
slots-init c = record { done = λ p from upto. absurd (omega (arith, from, upto)); rest = λ p out. refl }

pub slots-preserved : goal.slots-preserved
slots-preserved c =
    let h = c.slots.invariant in
    let slot : ℕ = c.slots.slot in
    let words = c.slots.words in
    let word : ℕ = 2 ^ 64 - 1 in
    let from : c.args.from ≤ slot = omega arith in
    let within : slot < length words = (let t = c.slots-test.true in let room = c.requires.long_enough in let same = c.slots.auto.words in omega (arith, t, room, same)) in
    record {
      done = λ p lower upto. elim (cases_lt p slot) [
        | inl less ↦ get_or-set_other words slot p word 0 (omega (arith, less)) ∙ h.done p lower less
        | inr more ↦ (let e : p ≡ slot = omega (arith, upto, more) in rw e (get_or-set_same words slot word 0 within))
      ];
      rest = λ p out. elim out [
        | inl lower ↦ get_or-set_other words slot p word 0 (omega (arith, lower, from)) ∙ h.rest p (inl lower)
        | inr upper ↦ get_or-set_other words slot p word 0 (omega (arith, upper)) ∙ h.rest p (inr (omega (arith, upper)))
      ];
    }

outside : (from to i : ℕ) → (i / 64 < from) ⊎ (to ≤ i / 64) → in_range (64 * from) (64 * to) i ≡ false
outside from to i out = elim out [
  | inl lower ↦ (let l : i < 64 * from = omega (arith, lower) in grind (arith, nat_tests))
  | inr upper ↦ (let u : 64 * to ≤ i = omega (arith, upper) in grind (arith, nat_tests))
]

inside : (from to i : ℕ) → from ≤ i / 64 → i / 64 < to → in_range (64 * from) (64 * to) i ≡ true
inside from to i lower upper =
    let l : 64 * from ≤ i = omega (arith, lower) in
    let u : i < 64 * to = omega (arith, upper) in
    grind (arith, nat_tests)

-- each bit of a full word is set
full : (b : ℕ) → b < 64 → (bit_at (2 ^ 64 - 1) b == 1) ≡ true
full b small = ap (λ x. x == 1) (low_at 64 b) ∙ (bit_test (nat_lt b 64) ∙ lt-ltb b 64 small)

pub returns : goal.returns
returns c = λ i.
    let h = c.slots.invariant in
    let test = c.slots-test.false in
    let from : ℕ = c.args.from in
    let to : ℕ = c.args.to in
    let old = c.args.words.now in
    let none : (i / 64 < from) ⊎ (to ≤ i / 64) → stands_in c.slots.words i ≡ (stands_in old i || in_range (64 * from) (64 * to) i) = λ out.
    ap (λ x. bit_at x (i % 64) == 1) (h.rest (i / 64) (elim out [ inl lower ↦ inl lower | inr upper ↦ inr (let e = c.slots.auto.slot-end in let o = c.requires.order in omega (arith, upper, e, o)) ]))
    ∙ sym (ap (λ t. stands_in old i || t) (outside from to i out) ∙ or-false (stands_in old i)) in
    elim (cases_lt (i / 64) from) [
      | inl lower ↦ none (inl lower)
      | inr after ↦ elim (cases_lt (i / 64) to) [
        | inl upto ↦
            ap (λ x. bit_at x (i % 64) == 1) (h.done (i / 64) after (omega (arith, upto, test)))
            ∙ (full (i % 64) (omega arith) ∙ sym (ap (λ t. stands_in old i || t) (inside from to i after upto) ∙ or-true (stands_in old i)))
        | inr past ↦ none (inr past)
      ]
    ]
