-- The highest bits of a word.
use Rattle.std.proofs.Common.{ℕ, ◌≡◌, ◌+◌, ◌-◌, ◌*◌, ◌/◌, ◌^◌, ◌<◌, ◌≤◌, zero, suc, sym, ap, ◌∙◌, refl, arith, inl, inr, bit_and}
use Rattle.std.proofs.lemmas.Bool.{cases_lt}
use Rattle.std.specs.Int.{bit_at, trailing_zeros, w64}
use Rattle.std.specs.Int.RustNames.{count_ones}
use Rattle.std.proofs.lemmas.Nat.Bits.{bit_at-suc, same_from_bits, bit_at-trailing_zeros}
use Rattle.std.proofs.Math.Nat.{div-div-eq-div-mul, pow-suc}
use Rattle.hibitset_base.specs.MiddleBit.{IsHalvingBit}
use Rattle.hibitset_base.proofs.MaskLemmas.{bits_without_first}
use Rattle.hibitset_base.proofs.OnesFromLemmas.{ones-from, none_before}

-- from each of its bits on, r has the bits of n and no others
abbrev pub AreHighest : ℕ → ℕ → Type 0
AreHighest n r = (i j : ℕ) → bit_at r i ≡ 1 → i ≤ j → bit_at r j ≡ bit_at n j

-- all bits of a word
pub all_highest : (n : ℕ) → AreHighest n n
all_highest n i j here later = refl

pub bit_past : (n p j : ℕ) → bit_at (n / 2 ^ p) j ≡ bit_at n (p + j)
bit_past n zero j = let one : n / 2 ^ 0 ≡ n = omega arith in let same : 0 + j ≡ j = omega arith in rw (one, same) refl
bit_past n (suc p) j =
    let halved : n / 2 ^ suc p ≡ n / 2 / 2 ^ p = ap (λ k. n / k) (pow-suc 2 p) ∙ (let turned : 2 ^ p * 2 ≡ 2 * 2 ^ p = omega arith in rw turned (sym (div-div-eq-div-mul n 2 (2 ^ p)))) in
    let next : suc p + j ≡ suc (p + j) = omega arith in
    rw (halved, next) (bit_past (n / 2) p j ∙ sym (bit_at-suc n (p + j)))

-- as many bits are set from p on where the same ones do
pub same_ones : (r n p : ℕ) → ((j : ℕ) → p ≤ j → bit_at r j ≡ bit_at n j) → count_ones (r / 2 ^ p) ≡ count_ones (n / 2 ^ p)
same_ones r n p same = ap count_ones (same_from_bits (r / 2 ^ p) (n / 2 ^ p) (λ j. bit_past r p j ∙ (same (p + j) (omega arith) ∙ sym (bit_past n p j))))

module _ (r : ℕ) (some : 0 < r) (fits : r < 2 ^ 64) where
  abbrev first : ℕ
  first = trailing_zeros w64 r

  abbrev rest : ℕ
  rest = bit_and r (r - 1)

  -- without its first bit a word has one bit fewer
  pub ones-without_first : count_ones rest + 1 ≡ count_ones r
  ones-without_first =
      let h = bit_at-trailing_zeros w64 r some fits in
      let without = bits_without_first r some fits in
      let all = none_before r first h.2 in
      let step = ones-from r first in
      let stood = h.1 in
      let later = none_before rest (first + 1) (λ i lower. without.0 i (omega arith)) in
      let same = same_ones rest r (first + 1) (λ j later. without.1 j (omega arith)) in
      omega (arith, all, step, stood, later, same)

  -- and it has the highest ones still
  pub highest-without_first : (n : ℕ) → AreHighest n r → AreHighest n rest
  highest-without_first n highest i j here later =
      let without = bits_without_first r some fits in
      let past : first < i = elim (cases_lt first i) [ inl lt ↦ lt | inr ge ↦ absurd (let none = without.0 i ge in omega arith) ] in
      without.1 j (omega arith) ∙ highest i j (sym (without.1 i past) ∙ here) later

  -- the first of the higher half is the halving bit
  pub halving : (n : ℕ) → AreHighest n r → count_ones r ≡ count_ones n / 2 → IsHalvingBit n first
  halving n highest half =
      let h = bit_at-trailing_zeros w64 r some fits in
      (h.0, sym (highest first first h.1 (omega arith)) ∙ h.1, sym (same_ones r n first (λ j later. highest first j h.1 later)) ∙ (none_before r first h.2 ∙ half))
