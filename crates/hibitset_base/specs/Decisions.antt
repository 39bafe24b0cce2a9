-- What is decided of numbers. It stands here, and not among the proofs, since laws that clauses name rest on it.
use Rattle.std.proofs.Common.{◌≡◌, ◌≢◌, ℕ, zero, suc, ◌<◌, ◌==◌, true, false, not, ◌↔◌, refl, sym, ◌∙◌, ap, arith, ◌⊎◌, inl, inr}
use Rattle.std.specs.Int.{bit_at}
use Rattle.std.proofs.Math.Nat.{eq-or-lt_of_le}
use Rattle.std.proofs.lemmas.Bool.{cases_lt}
use Rattle.std.proofs.lemmas.Bool.Decides.{nat_tests}
use Rattle.std.proofs.lemmas.Nat.Bits.{bit_at-zero}
use Rattle.hibitset_base.specs.Sets.{bit_of}

-- a number is another or not
pub same_or_not : (a b : ℕ) → (a ≡ b) ⊎ (a ≢ b)
same_or_not a b = elim (cases_lt a b) [
  | inl less ↦ inr (omega arith)
  | inr more ↦ elim (eq-or-lt_of_le more) [ inl e ↦ inl (sym e) | inr less ↦ inr (omega arith) ]
]

pub eq_same : (a b : ℕ) → a ≡ b → (a == b) ≡ true
eq_same a b e = grind (arith, nat_tests)

pub eq_other : (a b : ℕ) → a ≢ b → (a == b) ≡ false
eq_other a b other = grind (arith, nat_tests)

-- the bit that says whether a word is not 0
pub some_bit : (x : ℕ) → (bit_of (not (x == 0)) ≡ 1) ↔ (0 < x)
some_bit zero = (λ e. absurd (omega arith), λ h. absurd (omega arith))
some_bit (suc x) = (λ e. omega arith, λ h. let f : (suc x == 0) ≡ false = eq_other (suc x) 0 (λ e. absurd (omega arith)) in rw f refl)

-- a zero word has no bit
pub no_bit : (x b : ℕ) → x ≡ 0 → (bit_at x b == 1) ≡ true → bit_of true ≡ bit_of false
no_bit x b none on = ap bit_of (sym on ∙ ap (λ y. y == 1) (ap (λ z. bit_at z b) none ∙ bit_at-zero b))
