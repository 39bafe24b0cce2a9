use Rattle.std.proofs.Common.{◌≡◌, ℕ, ◌*◌, ◌%◌, ◌^◌, ◌<◌, ◌==◌, Bool, true, inl, inr, refl, w64, bit_and, ap, arith}
use Rattle.std.specs.Int.{bit_at, bit_not, rotate_left}
use Rattle.std.proofs.lemmas.Bool.{agree_below, agree_below_at, cases_lt}
use Rattle.std.proofs.lemmas.Bool.Decides.{nat_tests}
use Rattle.std.proofs.lemmas.Nat.{and_le_l}
use Rattle.std.proofs.lemmas.Nat.Bits.{bit_at_clear_same, bit_at_clear_other}
use Rattle.hibitset_base.proofs.bits.take_last_bit.Goals as goal

-- a word that lost a bit is less
lost_less : (word mask b : ℕ) → bit_at word b ≡ 1 → bit_at (bit_and word mask) b ≡ 0 → bit_and word mask < word
lost_less word mask b stood gone = elim (cases_lt (bit_and word mask) word) [
  | inl less ↦ less
  | inr more ↦ absurd (
      let same : bit_and word mask ≡ word = (let h = and_le_l word mask in omega (arith, h, more)) in
      let bit : bit_at (bit_and word mask) b ≡ bit_at word b = ap (λ x. bit_at x b) same in
      omega (arith, bit, stood, gone))
]

-- all bits but the one at b, by a rotation and by a shift
are_same : ℕ → Bool
are_same b = rotate_left w64 18446744073709551614 b == bit_not w64 (1 * 2 ^ b % 2 ^ 64)

all_same : agree_below are_same (λ _. true) 64 ≡ true
unfolding are_same
all_same = refl

rotated : (b : ℕ) → b < 64 → rotate_left w64 18446744073709551614 b ≡ bit_not w64 (1 * 2 ^ b % 2 ^ 64)
unfolding are_same
rotated b below = let same : are_same b ≡ true = agree_below_at are_same (λ _. true) 64 b all_same below in grind (arith, nat_tests, same)

pub returns-clause-bit_cleared : goal.returns-clause-bit_cleared
returns-clause-bit_cleared c =
    let is = rotated c.last_bit-bit.result c.last_bit-bit.ensures.in_word in
    rw (c.rotate_left.ensures, is) (bit_at_clear_same w64 c.args.word.now c.last_bit-bit.result c.last_bit-bit.ensures.in_word)

pub returns-clause-same : goal.returns-clause-same
returns-clause-same c = λ b small other.
    let is = rotated c.last_bit-bit.result c.last_bit-bit.ensures.in_word in
    rw (c.rotate_left.ensures, is) (bit_at_clear_other w64 c.args.word.now c.last_bit-bit.result c.last_bit-bit.ensures.in_word b small other)

pub returns-clause-less : goal.returns-clause-less
returns-clause-less c = lost_less c.args.word.now _ c.last_bit-bit.result c.last_bit-bit.ensures.bit_was_set (returns-clause-bit_cleared c)
