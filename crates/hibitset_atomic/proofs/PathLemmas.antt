-- The bits of a path.
use Rattle.std.proofs.Common.{◌≡◌, ℕ, zero, suc, ◌<◌, ◌^◌, [], ◌∷◌, map, slice_index_or, refl, arith, inl, inr, w64}
use Rattle.std.specs.Int.{bit_at, trailing_zeros}
use Rattle.std.proofs.lemmas.Nat.Bits.{bit_at-trailing_zeros, bit_at-pow_other}
use Rattle.std.proofs.lemmas.Nat.{pow_pos}
use Rattle.std.proofs.Math.Pow.{pow-lt}
use Rattle.hibitset_base.specs.Decisions.{same_or_not}

-- the lowest bit of a word that has one bit
pub lowest_of_one : (k : ℕ) → k < 64 → trailing_zeros w64 (2 ^ k) ≡ k
lowest_of_one k small =
    let h = bit_at-trailing_zeros w64 (2 ^ k) (pow_pos k) (pow-lt small) in
    elim (same_or_not (trailing_zeros w64 (2 ^ k)) k) [
      | inl e ↦ e
      | inr other ↦ absurd (let none : bit_at (2 ^ k) (trailing_zeros w64 (2 ^ k)) ≡ 0 = bit_at-pow_other k (trailing_zeros w64 (2 ^ k)) other in let one = h.1 in omega (arith, none, one))
    ]

pub at_layer : {X : Type 0} (f : ℕ → X) (d : X) (l : ℕ) → l < 4 → slice_index_or (map f (0 ∷ 1 ∷ 2 ∷ 3 ∷ [])) l d ≡ f l
at_layer f d zero low = refl
at_layer f d (suc zero) low = refl
at_layer f d (suc (suc zero)) low = refl
at_layer f d (suc (suc (suc zero))) low = refl
at_layer f d (suc (suc (suc (suc l)))) low = absurd (omega arith)
