-- The words of one bit each, as a table has them, and a summary that is put together from it.
use Rattle.std.proofs.Common.{◌≡◌, ℕ, ◌+◌, ◌^◌, ◌<◌, ◌≤◌, ◌↔◌, List, get_or, bit_or, refl, ◌∙◌, arith, inl, inr}
use Rattle.std.specs.Int.{bit_at}
use Rattle.std.proofs.Math.Dec.{eqb}
use Rattle.std.proofs.lemmas.Bool.{eqb-true}
use Rattle.std.proofs.lemmas.Nat.Bits.{bit_at-zero, bit_at_or, bit_at-pow_same, bit_at-pow_other}
use Rattle.hibitset_base.specs.Decisions.{same_or_not}
use Rattle.hibitset.specs.declared.summaries.TheConstants.{ONE_BIT}
use Rattle.hibitset_base.proofs.TestLemmas.{below_holds}

-- place b of the table has bit b alone
pub one_bit : (b : ℕ) → b < 64 → get_or ONE_BIT b 0 ≡ 2 ^ b
one_bit b small = eqb-true (get_or ONE_BIT b 0) (2 ^ b) (below_holds 64 (λ k. eqb (get_or ONE_BIT k 0) (2 ^ k)) refl b small)

-- the bits of the first n words are told, and no others
pub record ToldUpto (words : List ℕ) (summary n : ℕ) : Type 0 where
  pub told : (b : ℕ) → b < n → (bit_at summary b ≡ 1) ↔ (0 < get_or words b 0)
  pub rest : (b : ℕ) → n ≤ b → bit_at summary b ≡ 0

pub told_none : (words : List ℕ) → ToldUpto words 0 0
told_none words = record { told = λ b below. absurd (omega (arith, below)); rest = λ b past. bit_at-zero b }

pub told_blank : (words : List ℕ) (summary n : ℕ) → get_or words n 0 ≡ 0 → ToldUpto words summary n → ToldUpto words summary (n + 1)
told_blank words summary n blank upto = record {
  told = λ b below. elim (same_or_not b n) [
    | inl e ↦ rw (e, blank, upto.rest n (omega arith)) (λ one. absurd (omega (arith, one)), λ some. absurd (omega (arith, some)))
    | inr other ↦ upto.told b (omega (arith, below, other))
  ];
  rest = λ b past. upto.rest b (omega (arith, past));
}

pub told_bit : (words : List ℕ) (summary bit n : ℕ) → bit ≡ 2 ^ n → 0 < get_or words n 0 → ToldUpto words summary n → ToldUpto words (bit_or summary bit) (n + 1)
told_bit words summary bit n is some upto = record {
  told = λ b below. elim (same_or_not b n) [
    | inl e ↦
        let one : bit_at (bit_or summary bit) n ≡ 1 = bit_at_or summary bit n ∙ rw (upto.rest n (omega arith), is, bit_at-pow_same n) refl in
        rw (e, one) (λ _. some, λ _. refl)
    | inr other ↦
        let same : bit_at (bit_or summary bit) b ≡ bit_at summary b = bit_at_or summary bit b ∙ rw (is, bit_at-pow_other n b other) (omega arith) in
        rw same (upto.told b (omega (arith, below, other)))
  ];
  rest = λ b past. bit_at_or summary bit b ∙ rw (upto.rest b (omega (arith, past)), is, bit_at-pow_other n b (λ e. absurd (omega (arith, e, past)))) refl;
}
