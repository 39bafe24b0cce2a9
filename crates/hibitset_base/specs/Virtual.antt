-- Sets that are made of other sets, a word at a time. They are lawful where their operands are.
use Rattle.std.specs.Prelude.{◌≡◌, ℕ, zero, suc, ◌+◌, ◌-◌, ◌*◌, ◌/◌, ◌%◌, ◌^◌, ◌<◌, Bool, true, false, ◌&&◌, ◌||◌, not, bit_and, bit_or, bit_xor, min, max, refl, ◌⊎◌}
use Rattle.std.specs.Int.{bit_at, bit_not, w64}
use Rattle.std.specs.Int.Bits.{or_zero_l}
use Rattle.std.proofs.Common.{arith, ap, sym, ◌∙◌, inl, inr}
use Rattle.std.proofs.lemmas.Nat.{and_le_l, and_le_r, and_mask}
use Rattle.std.proofs.lemmas.Nat.Bits.{bit_at_and, bit_at_or, bit_at_xor, bit_at_not, bit_at_ones, bit_at-lt}
use Rattle.hibitset_base.specs.Sets.{IsLawful, bit_of}

-- one of the two holds, and not both
abbrev pub differ : Bool → Bool → Bool
differ true b = not b
differ false b = b

-- a word of 64 ones
abbrev pub all_ones : ℕ
all_ones = 2 ^ 64 - 1

-- the words of the sets that are in one of two operands alone, not in the operand, and in all: above layer 0 they have
-- bits wherever a member may be
abbrev pub xor_word : (ℕ → ℕ → ℕ) → (ℕ → ℕ → ℕ) → ℕ → ℕ → ℕ
xor_word v w zero p = bit_xor (v 0 p) (w 0 p)
xor_word v w (suc l) p = bit_or (v (suc l) p) (w (suc l) p)

abbrev pub not_word : (ℕ → ℕ → ℕ) → ℕ → ℕ → ℕ
not_word w zero p = bit_not w64 (w 0 p % 2 ^ 64)
not_word w (suc l) p = all_ones

bit_of_and : (a b : Bool) → min (bit_of a) (bit_of b) ≡ bit_of (a && b)
bit_of_and true true = refl
bit_of_and true false = refl
bit_of_and false true = refl
bit_of_and false false = refl

bit_of_or : (a b : Bool) → max (bit_of a) (bit_of b) ≡ bit_of (a || b)
bit_of_or true true = refl
bit_of_or true false = refl
bit_of_or false true = refl
bit_of_or false false = refl

bit_of_xor : (a b : Bool) → (bit_of a + bit_of b) % 2 ≡ bit_of (differ a b)
bit_of_xor true true = refl
bit_of_xor true false = refl
bit_of_xor false true = refl
bit_of_xor false false = refl

bit_of_not : (a : Bool) → 1 - bit_of a ≡ bit_of (not a)
bit_of_not true = refl
bit_of_not false = refl

some_of_or : (x y : ℕ) → 0 < bit_or x y → (0 < x) ⊎ (0 < y)
some_of_or zero y some = inr (let e : bit_or zero y ≡ y = or_zero_l y in omega arith)
some_of_or (suc x) y some = inl (omega arith)

xor_zero : (y : ℕ) → bit_xor zero y ≡ y
xor_zero y = refl

some_of_xor : (x y : ℕ) → 0 < bit_xor x y → (0 < x) ⊎ (0 < y)
some_of_xor zero y some = inr (let e : bit_xor zero y ≡ y = xor_zero y in omega arith)
some_of_xor (suc x) y some = inl (omega arith)

bit_at_mod : (x j : ℕ) → j < 64 → bit_at (x % 2 ^ 64) j ≡ bit_at x j
bit_at_mod x j small =
    let masked : bit_at (bit_and x (2 ^ 64 - 1)) j ≡ min (bit_at x j) (bit_at (2 ^ 64 - 1) j) = bit_at_and x (2 ^ 64 - 1) j in
    let one : bit_at (2 ^ 64 - 1) j ≡ 1 = bit_at_ones 64 j small in
    let low = bit_at-lt x j in
    ap (λ y. bit_at y j) (sym (and_mask x 64)) ∙ (masked ∙ rw one (omega arith))

-- the bit above is set where the one over either operand's word does
or_above : (n : ℕ) {p q : ℕ → Bool} {v w : ℕ → ℕ → ℕ} → IsLawful n p v → IsLawful n q w → (l i : ℕ) → l + 1 < n → i < 64 ^ (n - 1 - l) → (0 < v l i) ⊎ (0 < w l i)
    → bit_at (bit_or (v (l + 1) (i / 64)) (w (l + 1) (i / 64))) (i % 64) ≡ 1
or_above n {p} {q} {v} {w} a b l i below within some =
    let both = bit_at_or (v (l + 1) (i / 64)) (w (l + 1) (i / 64)) (i % 64) in
    let small = bit_at-lt (v (l + 1) (i / 64)) (i % 64) in
    let small2 = bit_at-lt (w (l + 1) (i / 64)) (i % 64) in
    elim some [
      | inl x ↦ let h = a.summaries l i below within x in omega (arith, both, h, small2)
      | inr y ↦ let h = b.summaries l i below within y in omega (arith, both, h, small)
    ]

pub and_lawful : (n : ℕ) {p q : ℕ → Bool} {v w : ℕ → ℕ → ℕ} → IsLawful n p v → IsLawful n q w → IsLawful n (λ i. p i && q i) (λ l i. bit_and (v l i) (w l i))
and_lawful n {p} {q} {v} {w} a b = record {
  members = λ i j below small.
      bit_at_and (v 0 i) (w 0 i) j
      ∙ (ap (λ x. min x (bit_at (w 0 i) j)) (a.members i j below small)
      ∙ (ap (λ x. min (bit_of (p (64 * i + j))) x) (b.members i j below small)
      ∙ bit_of_and (p (64 * i + j)) (q (64 * i + j))));
  summaries = λ l i below within positive.
      bit_at_and (v (l + 1) (i / 64)) (w (l + 1) (i / 64)) (i % 64)
      ∙ (ap (λ x. min x (bit_at (w (l + 1) (i / 64)) (i % 64))) (a.summaries l i below within (let k = and_le_l (v l i) (w l i) in omega arith))
      ∙ ap (λ x. min 1 x) (b.summaries l i below within (let k = and_le_r (v l i) (w l i) in omega arith)));
}

pub or_lawful : (n : ℕ) {p q : ℕ → Bool} {v w : ℕ → ℕ → ℕ} → IsLawful n p v → IsLawful n q w → IsLawful n (λ i. p i || q i) (λ l i. bit_or (v l i) (w l i))
or_lawful n {p} {q} {v} {w} a b = record {
  members = λ i j below small.
      bit_at_or (v 0 i) (w 0 i) j
      ∙ (ap (λ x. max x (bit_at (w 0 i) j)) (a.members i j below small)
      ∙ (ap (λ x. max (bit_of (p (64 * i + j))) x) (b.members i j below small)
      ∙ bit_of_or (p (64 * i + j)) (q (64 * i + j))));
  summaries = λ l i below within some. or_above n a b l i below within (some_of_or (v l i) (w l i) some);
}

xor_some : (v w : ℕ → ℕ → ℕ) (l i : ℕ) → 0 < xor_word v w l i → (0 < v l i) ⊎ (0 < w l i)
xor_some v w zero i some = some_of_xor (v 0 i) (w 0 i) some
xor_some v w (suc l) i some = some_of_or (v (suc l) i) (w (suc l) i) some

pub xor_lawful : (n : ℕ) {p q : ℕ → Bool} {v w : ℕ → ℕ → ℕ} → IsLawful n p v → IsLawful n q w → IsLawful n (λ i. differ (p i) (q i)) (xor_word v w)
xor_lawful n {p} {q} {v} {w} a b = record {
  members = λ i j below small.
      bit_at_xor (v 0 i) (w 0 i) j
      ∙ (ap (λ x. (x + bit_at (w 0 i) j) % 2) (a.members i j below small)
      ∙ (ap (λ x. (bit_of (p (64 * i + j)) + x) % 2) (b.members i j below small)
      ∙ bit_of_xor (p (64 * i + j)) (q (64 * i + j))));
  summaries = λ l i below within some.
      let one : l + 1 ≡ suc l = omega arith in
      let h : bit_at (bit_or (v (l + 1) (i / 64)) (w (l + 1) (i / 64))) (i % 64) ≡ 1 = or_above n a b l i below within (xor_some v w l i some) in
      let h2 = rw one at h in
      rw one h2;
}

ones_stand : (b : ℕ) → b < 64 → bit_at all_ones b ≡ 1
ones_stand b small = bit_at_ones 64 b small

pub not_lawful : (n : ℕ) {p : ℕ → Bool} {w : ℕ → ℕ → ℕ} → IsLawful n p w → IsLawful n (λ i. not (p i)) (not_word w)
not_lawful n {p} {w} a = record {
  members = λ i j below small.
      bit_at_not w64 (w 0 i % 2 ^ 64) j (omega arith) small
      ∙ (ap (λ x. 1 - x) (bit_at_mod (w 0 i) j small ∙ a.members i j below small)
      ∙ bit_of_not (p (64 * i + j)));
  summaries = λ l i below within some.
      let one : l + 1 ≡ suc l = omega arith in
      rw one (ones_stand (i % 64) (omega arith));
}

pub all_lawful : (n : ℕ) → IsLawful n (λ i. true) (λ l p. all_ones)
all_lawful n = record {
  members = λ i j below small. ones_stand j small;
  summaries = λ l i below within some. ones_stand (i % 64) (omega arith);
}
