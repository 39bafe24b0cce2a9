-- Two sets compared bit by bit.
use Rattle.std.specs.Prelude.{◌≡◌, ℕ, zero, suc, ◌^◌, ◌<◌, Bool, true, false, ◌==◌, ◌||◌, not, refl}
use Rattle.std.specs.Int.{bit_at}
use Rattle.std.proofs.Common.{arith, lit<, ap, sym, ◌∙◌}
use Rattle.std.proofs.lemmas.Bool.Decides.{nat_tests}
use Rattle.std.proofs.lemmas.Nat.Bits.{bit_at-lt, bit_at-zero, same_from_bits_below}
use Rattle.hibitset_base.specs.Sets.{bit_of}
use Rattle.hibitset_base.specs.Virtual.{differ}

-- ours has what theirs has
abbrev pub includes : Bool → Bool → Bool
includes ours theirs = not theirs || ours

-- both have it or neither
abbrev pub agree : Bool → Bool → Bool
agree ours theirs = not (differ ours theirs)

-- the bits of two words may all stand beside each other
pub record BitsPass (allowed : Bool → Bool → Bool) (ours theirs : ℕ) : Type 0 where
  pub bits : (b : ℕ) → b < 64 → allowed (bit_at ours b == 1) (bit_at theirs b == 1) ≡ true

-- bits with the same test are the same
same_bit : (x y : ℕ) → x < 2 → y < 2 → (x == 1) ≡ (y == 1) → x ≡ y
same_bit zero zero fx fy e = refl
same_bit (suc zero) (suc zero) fx fy e = refl
same_bit zero (suc zero) fx fy e = absurd (let h : bit_of false ≡ bit_of true = ap bit_of e in omega (arith, h))
same_bit (suc zero) zero fx fy e = absurd (let h : bit_of true ≡ bit_of false = ap bit_of e in omega (arith, h))
same_bit (suc (suc x)) y fx fy e = absurd (omega arith)
same_bit zero (suc (suc y)) fx fy e = absurd (omega arith)
same_bit (suc zero) (suc (suc y)) fx fy e = absurd (omega arith)

pub agree_same : (a b : Bool) → agree a b ≡ true → a ≡ b
agree_same true true e = refl
agree_same true false e = sym e
agree_same false true e = e
agree_same false false e = refl

pub same_agree : (a b : Bool) → a ≡ b → agree a b ≡ true
same_agree true b e = ap (λ x. agree true x) (sym e)
same_agree false b e = ap (λ x. agree false x) (sym e)

pub includes_from : (a b : Bool) → includes a b ≡ true → b ≡ true → a ≡ true
includes_from a true e h = e
includes_from a false e h = absurd (let k : bit_of false ≡ bit_of true = ap bit_of h in omega (arith, k))

pub includes_to : (a b : Bool) → (b ≡ true → a ≡ true) → includes a b ≡ true
includes_to a true h = h refl
includes_to a false h = refl

-- words whose bits agree are the same
pub agree_word : (x y : ℕ) → x < 2 ^ 64 → y < 2 ^ 64 → BitsPass agree x y → x ≡ y
agree_word x y fits_x fits_y pass = same_from_bits_below 64 x y fits_x fits_y (λ i small. same_bit (bit_at x i) (bit_at y i) (bit_at-lt x i) (bit_at-lt y i) (agree_same (bit_at x i == 1) (bit_at y i == 1) (pass.bits i small)))

-- Where the bits of two words pass, so do the bits over them, which tell whether they are 0.
pub agree_rises : (x y : ℕ) → x < 2 ^ 64 → y < 2 ^ 64 → BitsPass agree x y → agree (not (x == 0)) (not (y == 0)) ≡ true
agree_rises x y fits_x fits_y pass = same_agree (not (x == 0)) (not (y == 0)) (ap (λ z. not (z == 0)) (agree_word x y fits_x fits_y pass))

-- a word with no bit but those of 0
no_bits : (y : ℕ) → y < 2 ^ 64 → BitsPass includes 0 y → y ≡ 0
no_bits y fits pass = same_from_bits_below 64 y 0 fits (lit< tt) (λ i small. no_bit (bit_at 0 i) (bit_at y i) (bit_at-zero i) (bit_at-lt y i) (pass.bits i small))
  where
    no_bit : (a b : ℕ) → a ≡ 0 → b < 2 → includes (a == 1) (b == 1) ≡ true → b ≡ a
    no_bit zero zero e small h = refl
    no_bit zero (suc zero) e small h = absurd (let k : bit_of false ≡ bit_of true = ap bit_of h in omega (arith, k))
    no_bit zero (suc (suc b)) e small h = absurd (omega arith)
    no_bit (suc a) b e small h = absurd (omega arith)

pub includes_rises : (x y : ℕ) → x < 2 ^ 64 → y < 2 ^ 64 → BitsPass includes x y → includes (not (x == 0)) (not (y == 0)) ≡ true
includes_rises zero y fits_x fits_y pass = rw (no_bits y fits_y pass) refl
includes_rises (suc x) y fits_x fits_y pass = includes_to (not (suc x == 0)) (not (y == 0)) (λ some. let other : (suc x == 0) ≡ false = grind (arith, nat_tests) in rw other refl)

-- Under a bit that theirs lacks, each word of ours passes beside none of theirs.
pub agree_alone : (a : Bool) (x c : ℕ) → agree a false ≡ true → (0 < x → a ≡ true) → agree (bit_at x c == 1) false ≡ true
agree_alone a zero c e under = rw (bit_at-zero c) refl
agree_alone a (suc x) c e under = absurd (let h : a ≡ true = under (omega arith) in let k : bit_of true ≡ bit_of false = ap bit_of (sym h ∙ agree_same a false e) in omega (arith, k))

pub includes_alone : (a : Bool) (x c : ℕ) → includes a false ≡ true → (0 < x → a ≡ true) → includes (bit_at x c == 1) false ≡ true
includes_alone a x c e under = refl
