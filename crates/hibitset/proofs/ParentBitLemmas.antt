-- The word over one that has become zero or nonzero, with its bit set right.
use Rattle.std.proofs.Common.{◌≡◌, ◌≢◌, ℕ, ◌+◌, ◌/◌, ◌%◌, ◌^◌, ◌<◌, ◌==◌, not, Bool, false, sym, ◌∙◌, ap, arith, lit<, inl, inr}
use Rattle.std.specs.Int.{bit_at}
use Rattle.std.proofs.lemmas.Bool.{cases_lt}
use Rattle.std.proofs.lemmas.Nat.Bits.{bit_at-zero, same_from_bits_below}
use Rattle.hibitset_base.specs.Decisions.{same_or_not}
use Rattle.hibitset_base.specs.Sets.{bit_of}
use Rattle.hibitset_base.specs.declared.util.TheConstants.{LAYERS}
use Rattle.hibitset.specs.Layout.{SummariesExactExceptAt}
use Rattle.hibitset.specs.Layers.{word_in}
use Rattle.hibitset.specs.declared.layers.Layers.{Layers}
use Rattle.hibitset.proofs.SummaryUpdateLemmas.{but_next}

-- a word without one bit is 0 where the word with it is
pub cleared : (before word bit : ℕ) (stands : Bool) → word < 2 ^ 64 → ((b : ℕ) → b < 64 → b ≢ bit → bit_at word b ≡ bit_at before b) → bit_at word bit ≡ bit_of stands → stands ≡ false → 0 < word → 0 < before
cleared before word bit stands fits same here off some = elim (cases_lt 0 before) [
  | inl there ↦ there
  | inr none ↦
      let zero : before ≡ 0 = omega (arith, none) in
      let all : word ≡ 0 = same_from_bits_below 64 word 0 fits (lit< tt) (λ b small. elim (same_or_not b bit) [
        | inl e ↦ rw (e, here, off) (sym (bit_at-zero bit))
        | inr other ↦ same b small other ∙ ap (λ x. bit_at x b) zero
      ]) in
      absurd (omega (arith, all, some))
]

module _ (x y : Layers) (layer place before word : ℕ) (stands : Bool) (summed : SummariesExactExceptAt LAYERS (word_in x) layer place) (turned : not (word_in x layer place == 0) ≡ stands)
    (read : before ≡ word_in x (layer + 1) (place / 64)) (here : word_in y (layer + 1) (place / 64) ≡ word) (others : (p : ℕ) → p ≢ place / 64 → word_in y (layer + 1) p ≡ word_in x (layer + 1) p)
    (layers : (l p : ℕ) → l ≢ layer + 1 → word_in y l p ≡ word_in x l p) (same : (b : ℕ) → b < 64 → b ≢ place % 64 → bit_at word b ≡ bit_at before b) (bit : bit_at word (place % 64) ≡ bit_of stands) where
  pub linked : SummariesExactExceptAt LAYERS (word_in y) (layer + 1) (place / 64)
  linked = but_next LAYERS layer place (word_in x) (word_in y) summed layers others
      (λ b small other. ap (λ v. bit_at v b) here ∙ (same b small other ∙ ap (λ v. bit_at v b) read))
      (ap (λ v. bit_at v (place % 64)) here ∙ (bit ∙ ap bit_of (sym turned)))
