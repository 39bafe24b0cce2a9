-- The words of two sets put together by and, or, exclusive or, and one taken from the other.
use Rattle.std.specs.Prelude.{◌≡◌, ℕ, zero, suc, ◌+◌, ◌%◌, ◌<◌, Bool, true, false, ◌==◌, ◌&&◌, ◌||◌, not, bit_and, bit_or, bit_xor, min, max, refl}
use Rattle.std.specs.Int.{bit_at}
use Rattle.std.specs.Int.Bits.{or_zero_r, xor_zero_r, and_zero_l, and_zero_r}
use Rattle.std.proofs.Common.{arith, ap, ◌∙◌}
use Rattle.std.proofs.lemmas.Nat.Bits.{bit_at_and, bit_at_or, bit_at_xor, bit_at-lt, bit_at-zero}
use Rattle.hibitset_base.specs.Sets.{IsLawful, bit_of}
use Rattle.hibitset_base.specs.Virtual.{differ}

-- a test of two bits, by the four cases
by_bits : (f : ℕ → ℕ → ℕ) (g : Bool → Bool → Bool) → f 0 0 ≡ bit_of (g false false) → f 0 1 ≡ bit_of (g false true) → f 1 0 ≡ bit_of (g true false) → f 1 1 ≡ bit_of (g true true)
    → (a b : ℕ) → a < 2 → b < 2 → f a b ≡ bit_of (g (a == 1) (b == 1))
by_bits f g h00 h01 h10 h11 zero zero la lb = h00
by_bits f g h00 h01 h10 h11 zero (suc zero) la lb = h01
by_bits f g h00 h01 h10 h11 (suc zero) zero la lb = h10
by_bits f g h00 h01 h10 h11 (suc zero) (suc zero) la lb = h11
by_bits f g h00 h01 h10 h11 (suc (suc a)) b la lb = absurd (omega arith)
by_bits f g h00 h01 h10 h11 zero (suc (suc b)) la lb = absurd (omega arith)
by_bits f g h00 h01 h10 h11 (suc zero) (suc (suc b)) la lb = absurd (omega arith)

pub and_bits : (x y i : ℕ) → bit_at (bit_and x y) i ≡ bit_of ((bit_at x i == 1) && (bit_at y i == 1))
and_bits x y i = bit_at_and x y i ∙ by_bits min (λ a b. a && b) refl refl refl refl (bit_at x i) (bit_at y i) (bit_at-lt x i) (bit_at-lt y i)

pub or_bits : (x y i : ℕ) → bit_at (bit_or x y) i ≡ bit_of ((bit_at x i == 1) || (bit_at y i == 1))
or_bits x y i = bit_at_or x y i ∙ by_bits max (λ a b. a || b) refl refl refl refl (bit_at x i) (bit_at y i) (bit_at-lt x i) (bit_at-lt y i)

pub xor_bits : (x y i : ℕ) → bit_at (bit_xor x y) i ≡ bit_of (differ (bit_at x i == 1) (bit_at y i == 1))
xor_bits x y i = bit_at_xor x y i ∙ by_bits (λ a b. (a + b) % 2) differ refl refl refl refl (bit_at x i) (bit_at y i) (bit_at-lt x i) (bit_at-lt y i)

-- the bits of a word that another lacks
abbrev pub without : ℕ → ℕ → ℕ
without x y = bit_xor x (bit_and x y)

pub without_bits : (x y i : ℕ) → bit_at (without x y) i ≡ bit_of ((bit_at x i == 1) && not (bit_at y i == 1))
without_bits x y i = bit_at_xor x (bit_and x y) i ∙ (ap (λ t. (bit_at x i + t) % 2) (bit_at_and x y i) ∙ by_bits (λ a b. (a + min a b) % 2) (λ a b. a && not b) refl refl refl refl (bit_at x i) (bit_at y i) (bit_at-lt x i) (bit_at-lt y i))

-- A word stays where the place over it is not visited. For and, that is where ours has no bit; for or and exclusive or,
-- where theirs has none; where one is taken from the other, where either has none.
pub and_keeps : (ours theirs b x y : ℕ) → bit_at ours b ≡ 0 → (0 < x → bit_at ours b ≡ 1) → (0 < y → bit_at theirs b ≡ 1) → bit_and x y ≡ x
and_keeps ours theirs b zero y off here there = and_zero_l y
and_keeps ours theirs b (suc x) y off here there = absurd (let h = here (omega arith) in omega arith)

pub or_keeps : (ours theirs b x y : ℕ) → bit_at theirs b ≡ 0 → (0 < x → bit_at ours b ≡ 1) → (0 < y → bit_at theirs b ≡ 1) → bit_or x y ≡ x
or_keeps ours theirs b x zero off here there = or_zero_r x
or_keeps ours theirs b x (suc y) off here there = absurd (let h = there (omega arith) in omega arith)

pub xor_keeps : (ours theirs b x y : ℕ) → bit_at theirs b ≡ 0 → (0 < x → bit_at ours b ≡ 1) → (0 < y → bit_at theirs b ≡ 1) → bit_xor x y ≡ x
xor_keeps ours theirs b x zero off here there = xor_zero_r x
xor_keeps ours theirs b x (suc y) off here there = absurd (let h = there (omega arith) in omega arith)

pub without_keeps : (ours theirs b x y : ℕ) → bit_at (bit_and ours theirs) b ≡ 0 → (0 < x → bit_at ours b ≡ 1) → (0 < y → bit_at theirs b ≡ 1) → without x y ≡ x
without_keeps ours theirs b zero y off here there = ap (λ t. bit_xor zero t) (and_zero_l y) ∙ xor_zero_r zero
without_keeps ours theirs b (suc x) zero off here there = ap (λ t. bit_xor (suc x) t) (and_zero_r (suc x)) ∙ xor_zero_r (suc x)
without_keeps ours theirs b (suc x) (suc y) off here there = absurd (let h = here (omega arith) in let k = there (omega arith) in let m = bit_at_and ours theirs b in omega (arith, h, k, m, off))

-- the set with no members is lawful
pub none_lawful : (n : ℕ) → IsLawful n (λ i. false) (λ l p. 0)
none_lawful n = record { members = λ p b within small. bit_at-zero b; summaries = λ l p below within some. absurd (omega arith) }
