-- One word is changed, and the summaries over it are set right from the lowest up.
use Rattle.std.proofs.Common.{◌≡◌, ◌≢◌, ℕ, ◌+◌, ◌*◌, ◌/◌, ◌%◌, ◌<◌, ◌≤◌, ◌==◌, not, ◌↔◌, List, get_or, ◌∙◌, ap, arith, inl, inr}
use Rattle.std.specs.Int.{bit_at}
use Rattle.std.proofs.lemmas.Nat.Bits.{bit_at-zero}
use Rattle.hibitset_base.specs.Decisions.{same_or_not, some_bit}
use Rattle.hibitset_base.specs.Sets.{bit_of}
use Rattle.hibitset_base.specs.Words.{SummariesExactEverywhere}
use Rattle.hibitset.specs.Merge.{Summarizes}
use Rattle.hibitset.specs.Layout.{SummariesExactExceptAt}

-- the bit over word q of layer k tells whether that word is 0
abbrev pub Tells : (ℕ → ℕ → ℕ) → ℕ → ℕ → Type 0
Tells w k q = (bit_at (w (k + 1) (q / 64)) (q % 64) ≡ 1) ↔ (0 < w k q)

pub but_tells : (n k q : ℕ) (w : ℕ → ℕ → ℕ) → SummariesExactExceptAt n w k q → k + 1 + 1 < n → Tells w (k + 1) (q / 64)
but_tells n k q w but below =
    let whole : 64 * (q / 64 / 64) + q / 64 % 64 ≡ q / 64 = omega arith in
    rw whole at (but.off (k + 1) (q / 64 / 64) (q / 64 % 64) below (omega arith) (λ e. absurd (omega arith)))

-- one word of layer 0 is changed
pub but_first : (n : ℕ) (w v : ℕ → ℕ → ℕ) (q : ℕ) → SummariesExactEverywhere n w → ((p : ℕ) → p ≢ q → v 0 p ≡ w 0 p) → ((l p : ℕ) → l ≢ 0 → v l p ≡ w l p) → SummariesExactExceptAt n v 0 q
but_first n w v q summed others above = record {
  off = λ l p b below small elsewhere.
      let same : v l (64 * p + b) ≡ w l (64 * p + b) = elim (same_or_not l 0) [
        | inl e ↦ rw e (others (64 * p + b) (elsewhere e))
        | inr higher ↦ above l (64 * p + b) higher
      ] in
      rw (above (l + 1) p (λ e. absurd (omega arith)), same) (summed.summed l p b below small);
}

-- the words under word q of layer 1 are changed, and that word is their summary
pub but_block : (n : ℕ) (w v : ℕ → ℕ → ℕ) (q : ℕ) → SummariesExactEverywhere n w → ((p : ℕ) → p / 64 ≢ q → v 0 p ≡ w 0 p) → ((p : ℕ) → p ≢ q → v 1 p ≡ w 1 p) → ((l p : ℕ) → 1 < l → v l p ≡ w l p) → Summarizes (v 0) q (v 1 q) → SummariesExactExceptAt n v 1 q
but_block n w v q summed base others above summary = record {
  off = λ l p b below small elsewhere. elim (same_or_not l 0) [
    | inl e ↦ elim (same_or_not p q) [
      | inl is ↦ rw (e, is) (summary.bits b small)
      | inr other ↦ (let old = summed.summed 0 p b (rw e at below) small in rw (e, others p other, base (64 * p + b) (λ f. other (omega arith))) old)
    ]
    | inr higher ↦
        let same : v l (64 * p + b) ≡ w l (64 * p + b) = elim (same_or_not l 1) [
          | inl one ↦ rw one (others (64 * p + b) (elsewhere one))
          | inr more ↦ above l (64 * p + b) (omega arith)
        ] in
        rw (above (l + 1) p (omega arith), same) (summed.summed l p b below small)
  ];
}

-- the bit over the word is set right, so that the word above may need its own
pub but_next : (n k q : ℕ) (u v : ℕ → ℕ → ℕ) → SummariesExactExceptAt n u k q → ((l p : ℕ) → l ≢ k + 1 → v l p ≡ u l p) → ((p : ℕ) → p ≢ q / 64 → v (k + 1) p ≡ u (k + 1) p)
    → ((b : ℕ) → b < 64 → b ≢ q % 64 → bit_at (v (k + 1) (q / 64)) b ≡ bit_at (u (k + 1) (q / 64)) b) → bit_at (v (k + 1) (q / 64)) (q % 64) ≡ bit_of (not (u k q == 0)) → SummariesExactExceptAt n v (k + 1) (q / 64)
but_next n k q u v but layers others bits bit = record {
  off = λ l p b below small elsewhere.
      let lower : v l (64 * p + b) ≡ u l (64 * p + b) = elim (same_or_not l (k + 1)) [
        | inl e ↦ rw e (others (64 * p + b) (elsewhere e))
        | inr other ↦ layers l (64 * p + b) other
      ] in
      elim (same_or_not l k) [
        | inl e ↦ elim (same_or_not p (q / 64)) [
          | inl is ↦ elim (same_or_not b (q % 64)) [
            | inl at ↦
                let whole : 64 * p + b ≡ q = omega arith in
                rw (lower, whole, e, is, at, bit) (some_bit (u k q))
            | inr off ↦ (let old = but.off l p b below small (λ f g. off (omega arith)) in rw lower (rw (e, is, bits b small off) (rw (e, is) at old)))
          ]
          | inr aside ↦ (let old = but.off l p b below small (λ f g. aside (omega arith)) in rw (lower, e, others p aside) (rw e at old))
        ]
        | inr other ↦ rw (layers (l + 1) p (λ f. other (omega arith)), lower) (but.off l p b below small (λ f. absurd (other f)))
      ];
}

-- The bit over the word is right as it is, where it told of u's word, which is 0 where this one is.
pub but_last : (n k q : ℕ) (u v : ℕ → ℕ → ℕ) → SummariesExactExceptAt n v k q → (k + 1 < n → Tells u k q) → ((p : ℕ) → v (k + 1) p ≡ u (k + 1) p) → (0 < u k q) ↔ (0 < v k q) → SummariesExactEverywhere n v
but_last n k q u v but tells above stays = record {
  summed = λ l p b below small. elim (same_or_not l k) [
    | inl e ↦ elim (same_or_not (64 * p + b) q) [
      | inl is ↦
          let p-is : p ≡ q / 64 = omega arith in
          let b-is : b ≡ q % 64 = omega arith in
          let on = tells (rw e at below) in
          rw (is, e, p-is, b-is, above (q / 64)) (λ stands. stays.0 (on.0 stands), λ some. on.1 (stays.1 some))
      | inr other ↦ but.off l p b below small (λ f. other)
    ]
    | inr other ↦ but.off l p b below small (λ f. absurd (other f))
  ];
}

-- no bit is set over a word of the top layer
pub but_top : (n k q : ℕ) (v : ℕ → ℕ → ℕ) → n ≤ k + 1 → SummariesExactExceptAt n v k q → SummariesExactEverywhere n v
but_top n k q v top but = record { summed = λ l p b below small. but.off l p b below small (λ e. absurd (omega arith)) }

-- the same words have the same summary
pub summary_same : (u v : ℕ → ℕ) (p a b : ℕ) → ((q : ℕ) → u q ≡ v q) → a ≡ b → Summarizes v p b → Summarizes u p a
summary_same u v p a b same is summary = record { bits = λ i small. rw (is, same (64 * p + i)) (summary.bits i small) }

-- the summary of the words of a list from a place on is that of the words that it has
pub summed_list : (below : List ℕ) (words : ℕ → ℕ) (place summary : ℕ) → ((p : ℕ) → get_or below p 0 ≡ words p) → ((b : ℕ) → b < 64 → (bit_at summary b ≡ 1) ↔ (0 < get_or below (64 * place + b) 0)) → Summarizes words place summary
summed_list below words place summary same is = record { bits = λ b small. rw (same (64 * place + b)) at (is b small) }

-- past the end of its layer a word is 0, and so are those below
pub none_past : (words : ℕ → ℕ) (p summary : ℕ) → summary ≡ 0 → ((b : ℕ) → b < 64 → words (64 * p + b) ≡ 0) → Summarizes words p summary
none_past words p summary zero none = record {
  bits = λ b small.
      let bit : bit_at summary b ≡ 0 = ap (λ w. bit_at w b) zero ∙ bit_at-zero b in
      (λ one. absurd (omega (arith, bit, one)), λ some. let h = none b small in absurd (omega (arith, h, some)));
}
