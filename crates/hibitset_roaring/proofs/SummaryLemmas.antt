-- Layer 1 of a set has the summaries of layer 0.
use Rattle.std.proofs.Common.{◌≡◌, ℕ, ◌/◌, ◌%◌, ◌<◌, ◌≤◌, List, get_or, length, ap, ◌∙◌, arith, inl, inr}
use Rattle.std.specs.Int.{bit_at}
use Rattle.std.proofs.lemmas.Bool.{cases_lt}
use Rattle.std.proofs.lemmas.List.{get_or_past}
use Rattle.hibitset.specs.BitSet.{word_of, has_is_lawful}
use Rattle.hibitset.specs.declared.set.BitSet.{BitSet}
use Rattle.hibitset_roaring.specs.Words.{AreSummaries}

pub summaries_of : (set : BitSet) (words above : List ℕ) → length words ≤ 16777216 → ((p : ℕ) → get_or words p 0 ≡ word_of set 0 p) → ((p : ℕ) → get_or above p 0 ≡ word_of set 1 p) → AreSummaries words above
summaries_of set words above short low high = record {
  bits = λ p some.
      let there : p < length words = elim (cases_lt p (length words)) [
        | inl there ↦ there
        | inr past ↦ absurd (let z = get_or_past words p 0 past in omega (arith, some, z))
      ] in
      let l = low p in
      let h = (has_is_lawful set).summaries 0 p (omega arith) (omega (arith, there, short)) (omega (arith, some, l)) in
      ap (λ w. bit_at w (p % 64)) (high (p / 64)) ∙ h;
}
