-- Taking the first bit of a mask.
use Rattle.std.proofs.Common.{◌≡◌, ℕ, zero, suc, ◌+◌, ◌-◌, ◌*◌, ◌/◌, ◌%◌, ◌^◌, ◌<◌, ◌≤◌, refl, sym, ◌∙◌, ap, arith, ◌⊎◌, inl, inr, bit_and, bit_or, lit<}
use Rattle.std.specs.Int.{bit_at, trailing_zeros, w64}
use Rattle.std.proofs.lemmas.Nat.{and_le_r, or_block}
use Rattle.std.specs.Int.Bits.{or_zero_r}
use Rattle.std.proofs.Math.Nat.{eq-or-lt_of_le}
use Rattle.std.proofs.lemmas.Nat.Bits.{bit_at-trailing_zeros, bit_at-suc, bit_at_lowest, bit_at_and}

-- the mask m without its first bit, which is bit t, is r
pub record TakesFirst (m t r : ℕ) : Type 0 where
  pub small : t < 64
  pub stood : bit_at m t ≡ 1
  pub first : (i : ℕ) → i < t → bit_at m i ≡ 0
  pub gone : bit_at r t ≡ 0
  pub same : (i : ℕ) → i < 64 → (i < t) ⊎ (t < i) → bit_at r i ≡ bit_at m i
  pub less : r < m

-- one less than m has no bit t, the first of m, and m's bits above it
bits_of_less : (t m : ℕ) → 0 < m → bit_at m t ≡ 1 → ((i : ℕ) → i < t → bit_at m i ≡ 0) → (bit_at (m - 1) t ≡ 0) × ((i : ℕ) → t < i → bit_at (m - 1) i ≡ bit_at m i)
bits_of_less zero m some stood first =
    let odd : m % 2 ≡ 1 = omega (arith, bit_at_lowest m, stood) in
    let half : (m - 1) / 2 ≡ m / 2 = omega arith in
    (omega (arith, bit_at_lowest (m - 1)), above half)
  where
    above : (m - 1) / 2 ≡ m / 2 → (i : ℕ) → 0 < i → bit_at (m - 1) i ≡ bit_at m i
    above half zero later = absurd (omega arith)
    above half (suc i) later = bit_at-suc (m - 1) i ∙ (ap (λ x. bit_at x i) half ∙ sym (bit_at-suc m i))
bits_of_less (suc t) m some stood first =
    let none = first 0 (omega arith) in
    let even : m % 2 ≡ 0 = omega (arith, bit_at_lowest m, none) in
    let half : (m - 1) / 2 ≡ m / 2 - 1 = omega arith in
    let h = bits_of_less t (m / 2) (omega arith) (sym (bit_at-suc m t) ∙ stood) (λ i lower. sym (bit_at-suc m i) ∙ first (suc i) (omega arith)) in
    (bit_at-suc (m - 1) t ∙ (ap (λ x. bit_at x t) half ∙ h.0), above half h.1)
  where
    above : (m - 1) / 2 ≡ m / 2 - 1 → ((i : ℕ) → t < i → bit_at (m / 2 - 1) i ≡ bit_at (m / 2) i) → (i : ℕ) → suc t < i → bit_at (m - 1) i ≡ bit_at m i
    above half h zero later = absurd (omega arith)
    above half h (suc i) later = bit_at-suc (m - 1) i ∙ (ap (λ x. bit_at x i) half ∙ (h i (omega arith) ∙ sym (bit_at-suc m i)))

pub takes_first : (m : ℕ) → 0 < m → m < 2 ^ 64 → TakesFirst m (trailing_zeros w64 m) (bit_and m (m - 1))
takes_first m some fits =
    let t : ℕ = trailing_zeros w64 m in
    let h = bit_at-trailing_zeros w64 m some fits in
    let less = bits_of_less t m some h.1 h.2 in
    record {
      small = h.0;
      stood = h.1;
      first = h.2;
      gone = bit_at_and m (m - 1) t ∙ rw (h.1, less.0) refl;
      same = λ i small other. bit_at_and m (m - 1) i ∙ elim other [
        | inl lower ↦ rw (h.2 i lower) (omega arith)
        | inr above ↦ rw (less.1 i above) (omega arith)
      ];
      less = let le = and_le_r m (m - 1) in omega arith;
    }

-- without its first bit, a word has no bit up to there, and the same ones above
pub bits_without_first : (m : ℕ) → 0 < m → m < 2 ^ 64 → ((i : ℕ) → i ≤ trailing_zeros w64 m → bit_at (bit_and m (m - 1)) i ≡ 0) × ((i : ℕ) → trailing_zeros w64 m < i → bit_at (bit_and m (m - 1)) i ≡ bit_at m i)
bits_without_first m some fits =
    let taken = takes_first m some fits in
    let h = bit_at-trailing_zeros w64 m some fits in
    let less = bits_of_less (trailing_zeros w64 m) m some h.1 h.2 in (
      (λ i upto. elim (eq-or-lt_of_le upto) [
        | inl same ↦ rw same taken.gone
        | inr lower ↦ taken.same i (let small = taken.small in omega arith) (inl lower) ∙ taken.first i lower
      ]),
      (λ i above. bit_at_and m (m - 1) i ∙ rw (less.1 i above) (omega arith)),
    )

-- a bit's number beside the place of its word
pub or_is_sum : (a t : ℕ) → a % 64 ≡ 0 → t < 64 → bit_or a t ≡ a + t
or_is_sum a t word small =
    let x : ℕ = a / 64 in
    let a-is : a ≡ x * 64 + 0 = omega arith in
    let t-is : t ≡ 0 * 64 + t = omega arith in
    let h : bit_or (x * 64 + 0) (0 * 64 + t) ≡ bit_or x 0 * 64 + bit_or 0 t = or_block 6 x 0 0 t (lit< tt) small in
    let l : bit_or a t ≡ bit_or (x * 64 + 0) (0 * 64 + t) = ap (λ y. bit_or y t) a-is ∙ ap (λ y. bit_or (x * 64 + 0) y) t-is in
    let z : bit_or x 0 ≡ x = or_zero_r x in
    l ∙ (h ∙ rw z (omega arith))
