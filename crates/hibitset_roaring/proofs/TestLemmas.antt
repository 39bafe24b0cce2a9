-- Tests put together.
use Rattle.std.proofs.Common.{◌≡◌, ℕ, zero, suc, ◌+◌, ◌*◌, ◌/◌, ◌%◌, ◌<◌, ◌==◌, ◌&&◌, ◌||◌, Bool, true, false, refl, ap, ◌∙◌, add-one, arith, inl, inr}
use Rattle.std.specs.Prelude.{nat_le}
use Rattle.std.proofs.lemmas.Bool.{cases_lt, both_ways, or_cases, or_left, or_right}
use Rattle.std.proofs.lemmas.Bool.Decides.{nat_tests}
use Rattle.hibitset.specs.WordBits.{in_range}
use Rattle.hibitset_roaring.specs.Numbers.{any_below}

-- one more number with these high bits
pub or_under : (a h x y : Bool) → ((a || (h && y)) || (h && x)) ≡ (a || (h && (x || y)))
or_under true h x y = refl
or_under false false x y = refl
or_under false true true true = refl
or_under false true true false = refl
or_under false true false true = refl
or_under false true false false = refl

-- some number below the next one
pub any_next : (n : ℕ) (test : ℕ → Bool) → any_below (n + 1) test ≡ (test n || any_below n test)
unfolding any_below
any_next n test = rw add-one refl

pub any_none : (test : ℕ → Bool) → any_below 0 test ≡ false
unfolding any_below
any_none test = refl

-- a number by its high and its low bits
pub number_test : (high low i : ℕ) → low < 65536 → (i == 65536 * high + low) ≡ ((i / 65536 == high) && (low == i % 65536))
number_test high low i small = grind (arith, nat_tests)

-- a range by the high bits, which its numbers share, and the low bits
pub range_test : (high first last i : ℕ) → last < 65536 → in_range (65536 * high + first) (65536 * high + last + 1) i ≡ ((i / 65536 == high) && (nat_le first (i % 65536) && nat_le (i % 65536) last))
range_test high first last i small = grind (arith, nat_tests)

pub eq_comm : (a b : ℕ) → (a == b) ≡ (b == a)
eq_comm a b = grind (arith, nat_tests)

pub or_move : (x a w : Bool) → ((x || a) || w) ≡ (a || (x || w))
or_move true true w = refl
or_move true false w = refl
or_move false true w = refl
or_move false false w = refl

pub any_true : (n : ℕ) (test : ℕ → Bool) (k : ℕ) → k < n → test k ≡ true → any_below n test ≡ true
unfolding any_below
any_true zero test k below on = absurd (omega (arith, below))
any_true (suc n) test k below on = elim (cases_lt k n) [
  | inl lower ↦ or_right (test n) (any_below n test) (any_true n test k lower on)
  | inr upper ↦ (let e : n ≡ k = omega (arith, below, upper) in or_left (test n) (any_below n test) (ap test e ∙ on))
]

pub any_some : (n : ℕ) (test : ℕ → Bool) → any_below n test ≡ true → (k : ℕ) × (k < n) × (test k ≡ true)
unfolding any_below
any_some zero test on = absurd (both_ways false refl on)
any_some (suc n) test on = elim (or_cases (test n) (any_below n test) on) [
  | inl here ↦ (n, omega arith, here)
  | inr there ↦ (let h = any_some n test there in (h.0, (let b = h.1 in omega (arith, b)), h.2))
]
