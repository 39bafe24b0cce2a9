-- One word of layer 0 is changed, and the summaries over it are set right from the lowest up.
use Rattle.std.proofs.Common.{◌≡◌, ◌≢◌, ℕ, suc, ◌+◌, ◌-◌, ◌*◌, ◌/◌, ◌%◌, ◌^◌, ◌<◌, ◌==◌, not, ◌↔◌, List, [], get_or, sym, ◌∙◌, ap, arith, lit<, inl, inr}
use Rattle.std.specs.Int.{bit_at}
use Rattle.std.proofs.Math.ListN.{set}
use Rattle.std.proofs.Math.Nat.{pow-suc, div-div-eq-div-mul, div-lt_iff_lt-mul, one-le-pow, eq-or-lt_of_le}
use Rattle.std.proofs.lemmas.Bool.{cases_lt}
use Rattle.std.proofs.lemmas.Nat.{pow-add}
use Rattle.std.proofs.lemmas.List.{get_or-set_other}
use Rattle.hibitset_base.specs.Decisions.{same_or_not, some_bit}
use Rattle.hibitset_base.specs.Sets.{bit_of}
use Rattle.hibitset_base.specs.Words.{SummariesExactEverywhere, word_at}
use Rattle.hibitset_base.specs.SummaryUpdate.{SummariesUpdatedUpTo}

-- the way up, one layer more
pub way_up : (q l : ℕ) → q / 64 ^ (l + 1) ≡ q / 64 ^ l / 64
way_up q l = let s : l + 1 ≡ suc l = omega arith in rw (s, pow-suc 64 l) (sym (div-div-eq-div-mul q (64 ^ l) 64))

-- places above a place lie in their layers
pub place_within : (n l p : ℕ) → l < n → p < 64 ^ (n - 1) → p / 64 ^ l < 64 ^ (n - 1 - l)
place_within n l p below within =
    let sum : n - 1 - l + l ≡ n - 1 = omega arith in
    let e : 64 ^ (n - 1) ≡ 64 ^ (n - 1 - l) * 64 ^ l = ap (λ x. 64 ^ x) (sym sum) ∙ pow-add 64 (n - 1 - l) l in
    let some : 0 < 64 ^ l = one-le-pow l 64 (lit< tt) in
    (div-lt_iff_lt-mul some).1 (rw e at within)

-- the same words have the same summaries
pub summed_same : (n : ℕ) (w v : ℕ → ℕ → ℕ) → ((l p : ℕ) → v l p ≡ w l p) → SummariesExactEverywhere n w → SummariesExactEverywhere n v
summed_same n w v same summed = record { summed = λ l p b below small. rw (same (l + 1) p, same l (64 * p + b)) (summed.summed l p b below small) }

pub mended_first : (w v : ℕ → ℕ → ℕ) (q : ℕ) → ((l p : ℕ) → l ≢ 0 → v l p ≡ w l p) → ((p : ℕ) → p ≢ q → v 0 p ≡ w 0 p) → SummariesUpdatedUpTo 0 w v q
mended_first w v q layers others = record {
  off = λ l p other. elim (same_or_not l 0) [
    | inl e ↦ rw e (others p (λ f. other (let one : q / 64 ^ l ≡ q = (rw e (omega arith)) in f ∙ sym one)))
    | inr above ↦ layers l p above
  ];
  above = λ l p more. layers l p (λ e. absurd (omega arith));
  here = λ l less. absurd (omega arith);
  others = λ l b less small other. absurd (omega arith);
}

pub mended_next : (k : ℕ) (w u v : ℕ → ℕ → ℕ) (q : ℕ) → SummariesUpdatedUpTo k w u q → ((l p : ℕ) → l ≢ k + 1 → v l p ≡ u l p) → ((p : ℕ) → p ≢ q / 64 ^ (k + 1) → v (k + 1) p ≡ u (k + 1) p)
    → ((b : ℕ) → b < 64 → b ≢ q / 64 ^ k % 64 → bit_at (v (k + 1) (q / 64 ^ (k + 1))) b ≡ bit_at (u (k + 1) (q / 64 ^ (k + 1))) b)
    → bit_at (v (k + 1) (q / 64 ^ (k + 1))) (q / 64 ^ k % 64) ≡ bit_of (not (u k (q / 64 ^ k) == 0)) → SummariesUpdatedUpTo (k + 1) w v q
mended_next k w u v q mended layers others bits bit = record {
  off = λ l p other. elim (same_or_not l (k + 1)) [
    | inl e ↦ (let other_here : p ≢ q / 64 ^ (k + 1) = (λ f. other (f ∙ ap (λ x. q / 64 ^ x) (sym e))) in ap (λ x. v x p) e ∙ (others p other_here ∙ ap (λ x. u x p) (sym e))) ∙ mended.off l p other
    | inr elsewhere ↦ layers l p elsewhere ∙ mended.off l p other
  ];
  above = λ l p more. layers l p (λ e. absurd (omega arith)) ∙ mended.above l p (omega arith);
  here = λ l less. elim (same_or_not l k) [
    | inl e ↦ rw (e, bit, layers k (q / 64 ^ k) (λ f. absurd (omega arith))) (some_bit (u k (q / 64 ^ k)))
    | inr below ↦ rw (layers (l + 1) (q / 64 ^ (l + 1)) (λ f. absurd (omega arith)), layers l (q / 64 ^ l) (λ f. absurd (omega arith))) (mended.here l (omega arith))
  ];
  others = λ l b less small other. elim (same_or_not l k) [
    | inl e ↦ (let other_here : b ≢ q / 64 ^ k % 64 = (λ f. other (f ∙ ap (λ x. q / 64 ^ x % 64) (sym e))) in
        rw e (bits b small other_here ∙ ap (λ x. bit_at x b) (mended.above (k + 1) (q / 64 ^ (k + 1)) (omega arith))))
    | inr below ↦ ap (λ x. bit_at x b) (layers (l + 1) (q / 64 ^ (l + 1)) (λ f. absurd (omega arith))) ∙ mended.others l b (omega arith) small other
  ];
}

-- Summaries are exact again where the highest word that changed is 0 exactly if it was, or is the top.
pub mended_last : (n k : ℕ) (w v : ℕ → ℕ → ℕ) (q : ℕ) → SummariesUpdatedUpTo k w v q → (k + 1 < n → (0 < w k (q / 64 ^ k)) ↔ (0 < v k (q / 64 ^ k))) → SummariesExactEverywhere n w → SummariesExactEverywhere n v
mended_last n k w v q mended stays exact = record {
  summed = λ l p b below small. elim (same_or_not (64 * p + b) (q / 64 ^ l)) [
    | inl e ↦
        let up : q / 64 ^ (l + 1) ≡ q / 64 ^ l / 64 = way_up q l in
        let p-is : p ≡ q / 64 ^ (l + 1) = omega arith in
        let b-is : b ≡ q / 64 ^ l % 64 = omega arith in
        let old = exact.summed l p b below small in
        elim (cases_lt l k) [
          | inl on ↦ rw (e, p-is, b-is) (mended.here l on)
          | inr over ↦ elim (eq-or-lt_of_le over) [
            | inl top ↦
                let same : v (l + 1) p ≡ w (l + 1) p = mended.above (l + 1) p (omega arith) in
                let turn = rw top at (stays (omega arith)) in
                let turn_here = rw (← e) at turn in
                rw same (λ stands. turn_here.0 (old.0 stands), λ some. old.1 (turn_here.1 some))
            | inr higher ↦ rw (mended.above (l + 1) p (omega arith), mended.above l (64 * p + b) higher) old
          ]
        ]
    | inr off ↦
        let lower : v l (64 * p + b) ≡ w l (64 * p + b) = mended.off l (64 * p + b) off in
        let bit : bit_at (v (l + 1) p) b ≡ bit_at (w (l + 1) p) b = elim (same_or_not p (q / 64 ^ (l + 1))) [
          | inl p-is ↦ elim (cases_lt l k) [
            | inl on ↦
                let up : q / 64 ^ (l + 1) ≡ q / 64 ^ l / 64 = way_up q l in
                let other : b ≢ q / 64 ^ l % 64 = (λ f. off (omega arith)) in
                rw p-is (mended.others l b on small other)
            | inr over ↦ ap (λ x. bit_at x b) (mended.above (l + 1) p (omega arith))
          ]
          | inr p-not ↦ ap (λ x. bit_at x b) (mended.off (l + 1) p p-not)
        ] in
        rw (bit, lower) (exact.summed l p b below small)
  ];
}

-- another list in the place of a layer
pub other_layer : (layers : List (List ℕ)) (k : ℕ) (xs : List ℕ) (l p : ℕ) → l ≢ k → word_at (set layers k xs) l p ≡ word_at layers l p
other_layer layers k xs l p other = ap (λ ys. get_or ys p 0) (get_or-set_other layers k l xs [] other)
