use Rattle.std.proofs.Common.{◌≡◌, ℕ, zero, suc, ◌-◌, ◌^◌, ◌<◌, ◌==◌, ◌↔◌, true, false, min, bit_and, refl, sym, ◌∙◌, ap, arith, lit<, w64}
use Rattle.std.specs.Int.{bit_at, bit_not}
use Rattle.std.proofs.lemmas.Nat.{and_le_l}
use Rattle.std.proofs.lemmas.Nat.Bits.{bit_at_and, bit_at_not, bit_at-lt, bit_at-zero, same_from_bits_below}
use Rattle.hibitset_base.specs.Sets.{bit_of}
use Rattle.hibitset.specs.Comparison.{BitsPass, includes}
use Rattle.hibitset.proofs.compare.SupersetComparison.misses.Goals as goal

-- a bit of theirs that ours lacks, by the four cases
missing : (a b : ℕ) → a < 2 → b < 2 → (min b (1 - a) ≡ 0) ↔ (includes (a == 1) (b == 1) ≡ true)
missing zero zero fits_a fits_b = (λ e. refl, λ e. refl)
missing zero (suc zero) fits_a fits_b = (λ e. absurd (omega (arith, e)), λ e. absurd (let h : bit_of false ≡ bit_of true = ap bit_of e in omega (arith, h)))
missing (suc zero) zero fits_a fits_b = (λ e. refl, λ e. refl)
missing (suc zero) (suc zero) fits_a fits_b = (λ e. refl, λ e. refl)
missing (suc (suc a)) b fits_a fits_b = absurd (omega arith)
missing zero (suc (suc b)) fits_a fits_b = absurd (omega arith)
missing (suc zero) (suc (suc b)) fits_a fits_b = absurd (omega arith)

module _ (ours theirs : ℕ) (fits_ours : ours < 2 ^ 64) (fits_theirs : theirs < 2 ^ 64) where
  bit : (b : ℕ) → b < 64 → bit_at (bit_and theirs (bit_not w64 ours)) b ≡ min (bit_at theirs b) (1 - bit_at ours b)
  bit b small = bit_at_and theirs (bit_not w64 ours) b ∙ ap (λ x. min (bit_at theirs b) x) (bit_at_not w64 ours b fits_ours small)

  to_bits : bit_and theirs (bit_not w64 ours) ≡ 0 → BitsPass includes ours theirs
  to_bits none = record { bits = λ b small. (missing (bit_at ours b) (bit_at theirs b) (bit_at-lt ours b) (bit_at-lt theirs b)).0 (sym (bit b small) ∙ (ap (λ x. bit_at x b) none ∙ bit_at-zero b)) }

  from_bits : BitsPass includes ours theirs → bit_and theirs (bit_not w64 ours) ≡ 0
  from_bits pass =
      let less = and_le_l theirs (bit_not w64 ours) in
      same_from_bits_below 64 (bit_and theirs (bit_not w64 ours)) 0 (omega (arith, less, fits_theirs)) (lit< tt)
      (λ b small. bit b small ∙ ((missing (bit_at ours b) (bit_at theirs b) (bit_at-lt ours b) (bit_at-lt theirs b)).1 (pass.bits b small) ∙ sym (bit_at-zero b)))

pub returns : goal.returns
returns c = (to_bits c.args.ours c.args.theirs (omega arith) (omega arith), from_bits c.args.ours c.args.theirs (omega arith) (omega arith))
