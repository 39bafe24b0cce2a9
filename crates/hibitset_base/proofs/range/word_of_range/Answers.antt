use Rattle.std.proofs.Common.{◌≡◌, ℕ, ◌+◌, ◌-◌, ◌*◌, ◌^◌, ◌<◌, ◌≤◌, min, sym, ap, ap₂, ◌∙◌, lit<, arith}
use Rattle.std.proofs.Math.Nat.{one-le-pow, pow-le-pow_right}
use Rattle.std.proofs.lemmas.Bool.Decides.{nat_tests}
use Rattle.std.proofs.lemmas.Nat.Bits.{same_from_bits_below}
use Rattle.hibitset_base.specs.Sets.{bit_of}
use Rattle.hibitset_base.specs.Ranges.{in_range, run_word, run_bits}
use Rattle.hibitset_base.proofs.range.word_of_range.Goals as goal

-- a word within the range has all bits
whole_word : (from to place first room : ℕ) → from < 2 ^ 64 → to < 2 ^ 64 → first ≡ min (place * 64) (2 ^ 64 - 1) → from ≤ first → room ≡ to - first → 64 ≤ room → 18446744073709551615 ≡ run_word from to place
whole_word from to place first room from_fits to_fits first-is low room-is high =
    let low_here : 0 ≡ min (from - 64 * place) 64 = omega (arith, first-is, low, from_fits) in
    let high_here : 64 ≡ min (to - 64 * place) 64 = omega (arith, first-is, room-is, high, to_fits) in
    ap₂ (λ h l. 2 ^ h - 2 ^ l) high_here low_here

pub returns-then-saturating_sub-ge64 : goal.returns-then-saturating_sub-ge64
returns-then-saturating_sub-ge64 c =
    whole_word c.args.from c.args.to c.args.place c.saturating_mul-first.result c.saturating_sub.result (omega arith) (omega arith) (omega (arith, c.saturating_mul-first.ensures)) c.if-from-first.true c.saturating_sub.ensures c.if-saturating_sub-ge64.true

run_fits : (from to place : ℕ) → run_word from to place < 2 ^ 64
run_fits from to place =
    let few : min (to - 64 * place) 64 ≤ 64 = omega arith in
    let most : 2 ^ min (to - 64 * place) 64 ≤ 2 ^ 64 = pow-le-pow_right {n = 2} (lit< tt) few in
    let some = one-le-pow (min (from - 64 * place) 64) 2 (lit< tt) in
    omega (arith, most, some)

-- where the word begins past all numbers, it has none of the range
same_range : (from to place first b : ℕ) → to < 2 ^ 64 → first ≡ min (place * 64) (2 ^ 64 - 1) → in_range from to (first + b) ≡ in_range from to (64 * place + b)
same_range from to place first b to_fits first-is = grind (arith, nat_tests)

pub returns : goal.returns
returns c =
    same_from_bits_below 64 c.bits_within.result (run_word c.args.from c.args.to c.args.place) (omega (arith, c.bits_within.type_inv)) (run_fits c.args.from c.args.to c.args.place)
    (λ b small. c.bits_within.ensures b small
    ∙ (ap bit_of (same_range c.args.from c.args.to c.args.place c.saturating_mul-first.result b (omega arith) (omega (arith, c.saturating_mul-first.ensures)))
    ∙ sym (run_bits c.args.from c.args.to c.args.place b small)))
