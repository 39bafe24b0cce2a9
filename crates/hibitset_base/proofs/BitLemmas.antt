-- Bits of one word.
use Rattle.std.proofs.Common.{◌≡◌, ℕ, zero, suc, ◌+◌, ◌-◌, ◌*◌, ◌/◌, ◌^◌, ◌%◌, ◌<◌, ◌≤◌, ◌==◌, ◌&&◌, not, true, false, refl, sym, ap, ◌∙◌, arith, inl, inr, min, w64, bit_and, lit<}
use Rattle.std.specs.Prelude.{nat_lt}
use Rattle.std.specs.Int.{bit_at, bit_not, trailing_zeros}
use Rattle.std.proofs.Math.Nat.{div-le_self, one-le-pow, pow-le-pow_right, pow-succ'}
use Rattle.std.proofs.lemmas.Bool.{cases_lt}
use Rattle.std.proofs.lemmas.Bool.Decides.{nat_tests}
use Rattle.std.proofs.lemmas.Nat.Bits.{bit_at-lt, bit_at-zero, bit_at_above, bit_at_and, bit_at_not, bit_at_ones, bit_at_ones_above, bit_at_mask_below, bit_at_mask_inside, bit_at_mask_above, bit_at-trailing_zeros}
use Rattle.hibitset_base.specs.Bits.{HasPart}
use Rattle.hibitset_base.specs.Ranges.{in_range}
use Rattle.hibitset_base.specs.Sets.{bit_of}
use Rattle.hibitset_base.proofs.MembershipLemmas.{bit_test}
use Rattle.hibitset_base.proofs.MiddleBitLemmas.{bit_past}

-- the bits of a word of ones
pub low_at : (count b : ℕ) → bit_at (2 ^ count - 1) b ≡ bit_of (nat_lt b count)
low_at count b = elim (cases_lt b count) [
  | inl below ↦ (let yes : nat_lt b count ≡ true = grind (arith, nat_tests) in rw yes (bit_at_ones count b below))
  | inr past ↦ (let no : nat_lt b count ≡ false = grind (arith, nat_tests) in rw no (bit_at_ones_above count b past))
]

-- the bits that are left of a word where others are cleared
pub cleared_at : (x y b : ℕ) → y < 2 ^ 64 → b < 64 → bit_at (bit_and x (bit_not w64 y)) b ≡ bit_of ((bit_at x b == 1) && not (bit_at y b == 1))
cleared_at x y b fits small = bit_at_and x (bit_not w64 y) b ∙ (ap (λ t. min (bit_at x b) t) (bit_at_not w64 y b fits small) ∙ by_bits (bit_at x b) (bit_at y b) (bit_at-lt x b) (bit_at-lt y b))
  where
    by_bits : (a c : ℕ) → a < 2 → c < 2 → min a (1 - c) ≡ bit_of ((a == 1) && not (c == 1))
    by_bits zero zero la lc = refl
    by_bits zero (suc zero) la lc = refl
    by_bits (suc zero) zero la lc = refl
    by_bits (suc zero) (suc zero) la lc = refl
    by_bits (suc (suc a)) c la lc = absurd (omega arith)
    by_bits zero (suc (suc c)) la lc = absurd (omega arith)
    by_bits (suc zero) (suc (suc c)) la lc = absurd (omega arith)

-- the bits of a range: those before its end but not before its start
range_at : (first start end b : ℕ) → b < 64 → (nat_lt b (min (end - first) 64) && not (nat_lt b (min (start - first) 64))) ≡ in_range start end (first + b)
range_at first start end b small = grind (arith, nat_tests)

pub within_at : (first start end b e s upto from : ℕ) → s < 2 ^ 64 → b < 64 → upto ≡ min (end - first) 64 → from ≡ min (start - first) 64 → e ≡ 2 ^ upto - 1 → s ≡ 2 ^ from - 1
    → bit_at (bit_and e (bit_not w64 s)) b ≡ bit_of (in_range start end (first + b))
within_at first start end b e s upto from fits small upto-is from-is end-is start-is =
    let at_end : bit_at e b ≡ bit_of (nat_lt b upto) = ap (λ x. bit_at x b) end-is ∙ low_at upto b in
    let at_start : bit_at s b ≡ bit_of (nat_lt b from) = ap (λ x. bit_at x b) start-is ∙ low_at from b in
    cleared_at e s b fits small ∙ ap bit_of (rw (at_end, at_start, bit_test (nat_lt b upto), bit_test (nat_lt b from), upto-is, from-is) (range_at first start end b small))

-- with the ones from bit a on before bit b a word keeps its part there
pub has_part : (m a b : ℕ) → a ≤ b → b ≤ 64 → HasPart m a b (bit_and m (2 ^ b - 2 ^ a))
has_part m a b order few = record {
  order = order;
  few = few;
  same = λ j from below. let e = bit_at_and m (2 ^ b - 2 ^ a) j in let one = bit_at_mask_inside a b j from below in let less = bit_at-lt m j in omega (arith, e, one, less);
  before = λ j lower. let e = bit_at_and m (2 ^ b - 2 ^ a) j in let none = bit_at_mask_below a b j lower in omega (arith, e, none);
  after = λ j upper small. let e = bit_at_and m (2 ^ b - 2 ^ a) j in let none = bit_at_mask_above a b j upper in omega (arith, e, none);
}

-- the ones from bit b on, and after it, as code has them
module _ (b : ℕ) (small : b < 64) where
  most : 2 ^ b ≤ 2 ^ 63
  most = let le : b ≤ 63 = omega arith in pow-le-pow_right {n = 2} (lit< tt) le

  pub ones_on : 18446744073709551615 - (1 * 2 ^ b % 18446744073709551616 - 1) ≡ 2 ^ 64 - 2 ^ b
  ones_on = let high = most in let some : 1 ≤ 2 ^ b = one-le-pow b 2 (lit< tt) in omega (arith, high, some)

  pub ones_after : 18446744073709551614 * 2 ^ b % 18446744073709551616 ≡ 2 ^ 64 - 2 ^ (b + 1)
  ones_after =
      let high = most in
      let some : 1 ≤ 2 ^ b = one-le-pow b 2 (lit< tt) in
      let next : suc b ≡ b + 1 = omega arith in
      let twice : 2 ^ (b + 1) ≡ 2 * 2 ^ b = rw next at (pow-succ' 2 b) in
      omega (arith, high, some, twice)

module _ (word from : ℕ) where
  -- no bit is left from one on
  pub none_left : word / 2 ^ from ≡ 0 → (b : ℕ) → from ≤ b → bit_at word b ≡ 0
  none_left none b order =
      let e : from + (b - from) ≡ b = omega (arith, order) in
      ap (λ i. bit_at word i) (sym e) ∙ (sym (bit_past word from (b - from)) ∙ (ap (λ n. bit_at n (b - from)) none ∙ bit_at-zero (b - from)))

  module _ (fits : word < 2 ^ 64) (some : 0 < word / 2 ^ from) where
    less : word / 2 ^ from < 2 ^ 64
    less = let d = div-le_self word (2 ^ from) in omega (arith, d, fits)

    pub next_within : from + trailing_zeros w64 (word / 2 ^ from) < 64
    next_within =
        let t : ℕ = trailing_zeros w64 (word / 2 ^ from) in
        let h = bit_at-trailing_zeros w64 (word / 2 ^ from) some less in
        elim (cases_lt (from + t) 64) [
          | inl below ↦ below
          | inr past ↦ absurd (let one = sym (bit_past word from t) ∙ h.1 in let none = bit_at_above word 64 (from + t) fits past in omega (arith, one, none))
        ]

    pub next_found : bit_at word (from + trailing_zeros w64 (word / 2 ^ from)) ≡ 1
    next_found = sym (bit_past word from (trailing_zeros w64 (word / 2 ^ from))) ∙ (bit_at-trailing_zeros w64 (word / 2 ^ from) some less).1

    pub next_skips : (b : ℕ) → from ≤ b → b < from + trailing_zeros w64 (word / 2 ^ from) → bit_at word b ≡ 0
    next_skips b order below =
        let h = bit_at-trailing_zeros w64 (word / 2 ^ from) some less in
        let e : from + (b - from) ≡ b = omega (arith, order) in
        ap (λ i. bit_at word i) (sym e) ∙ (sym (bit_past word from (b - from)) ∙ h.2 (b - from) (omega (arith, order, below)))
