-- The words of a set in one row, and the marks of the row.
use Rattle.std.proofs.Common.{◌≡◌, ◌≢◌, ◌↔◌, ℕ, ◌+◌, ◌-◌, ◌*◌, ◌/◌, ◌%◌, ◌^◌, ◌<◌, ◌≤◌, true, List, length, slice_index, nat_lt, refl, ◌∙◌, ap, arith, lit<, inl, inr, w64}
use Rattle.std.specs.Int.{bit_at}
use Rattle.std.proofs.lemmas.Bool.{cases_lt}
use Rattle.std.proofs.lemmas.Bool.Decides.{nat_tests}
use Rattle.std.proofs.lemmas.List.{get_or_past}
use Rattle.std.proofs.lemmas.Nat.Bits.{bit_at-zero, bit_at-trailing_zeros}
use Rattle.std.specs.Int.{trailing_zeros}
use Rattle.hibitset_base.specs.Decisions.{same_or_not}
use Rattle.hibitset_base.specs.Words.{SummariesExactEverywhere, holds_at}
use Rattle.hibitset_atomic.specs.Row.{word_in_row}
use Rattle.hibitset_atomic.specs.Rule.{IsSet, above, Nonzero, OldPathsSet, SummariesOverNonzero}
use Rattle.hibitset_atomic.specs.declared.shared.layout.TheConstants.{LAYER1_START, LAYER2_START, LAYER3_START, ROW_WORDS}
use Rattle.hibitset_atomic.specs.declared.atomic.TheConstants.{ATOMIC_MAX_EID}

-- words put into a set from the first on: those before place i are there, and the others are 0
pub filled_more : (old new words : ℕ → ℕ) (i : ℕ) → ((p : ℕ) → p < i → old p ≡ words p) → new i ≡ words i → ((p : ℕ) → p ≢ i → new p ≡ old p) → (p : ℕ) → p < i + 1 → new p ≡ words p
filled_more old new words i filled here others p within = elim (same_or_not p i) [
  | inl e ↦ rw e here
  | inr other ↦ others p other ∙ filled p (omega arith)
]

pub empty_more : (old new : ℕ → ℕ) (i : ℕ) → ((p : ℕ) → i ≤ p → old p ≡ 0) → ((p : ℕ) → p ≢ i → new p ≡ old p) → (p : ℕ) → i + 1 ≤ p → new p ≡ 0
empty_more old new i empty others p past = others p (λ e. absurd (omega arith)) ∙ empty p (omega arith)

-- a nonzero word has a bit
some_mark : (row : List ℕ) (p : ℕ) → slice_index row p < 2 ^ 64 → 0 < slice_index row p → Nonzero row p
some_mark row p fits some =
    let t = bit_at-trailing_zeros w64 (slice_index row p) some fits in
    let b : ℕ = trailing_zeros w64 (slice_index row p) in
    let small : b < 64 = t.0 in
    let at : (64 * p + b) / 64 ≡ p = omega arith in
    let bit : (64 * p + b) % 64 ≡ b = omega arith in
    (64 * p + b, at, rw (at, bit) t.1)

lit_some : (row : List ℕ) (m : ℕ) → IsSet row m → 0 < slice_index row (m / 64)
lit_some row m lit = elim (same_or_not (slice_index row (m / 64)) 0) [
  | inl e ↦ absurd (let none : bit_at (slice_index row (m / 64)) (m % 64) ≡ 0 = rw (e, bit_at-zero (m % 64)) refl in omega (arith, none, lit))
  | inr some ↦ omega arith
]

pub in_layer0 : (w : ℕ → ℕ → ℕ) (p : ℕ) → p < LAYER1_START → word_in_row w p ≡ w 0 p
in_layer0 w p h = let e : nat_lt p LAYER1_START ≡ true = grind (arith, nat_tests) in rw e refl

in_layer1 : (w : ℕ → ℕ → ℕ) (p : ℕ) → LAYER1_START ≤ p → p < LAYER2_START → word_in_row w p ≡ w 1 (p - LAYER1_START)
in_layer1 w p h k = grind (arith, nat_tests)

in_layer2 : (w : ℕ → ℕ → ℕ) (p : ℕ) → LAYER2_START ≤ p → p < LAYER3_START → word_in_row w p ≡ w 2 (p - LAYER2_START)
in_layer2 w p h k = grind (arith, nat_tests)

in_layer3 : (w : ℕ → ℕ → ℕ) (p : ℕ) → LAYER3_START ≤ p → word_in_row w p ≡ w 3 0
in_layer3 w p h = grind (arith, nat_tests)

module _ (w : ℕ → ℕ → ℕ) (row : List ℕ) (exact : SummariesExactEverywhere 4 w) (fits : (l p : ℕ) → w l p < 2 ^ 64) (long : length row ≡ ROW_WORDS) (words : (p : ℕ) → p < ROW_WORDS → slice_index row p ≡ word_in_row w p) where
  row_fits : (p : ℕ) → slice_index row p < 2 ^ 64
  row_fits p = elim (cases_lt p ROW_WORDS) [
    | inl within ↦ rw (words p within) (word_fits p)
    | inr past ↦ rw (get_or_past row p 0 (omega (arith, long, past))) (omega arith)
  ]
    where
      word_fits : (p : ℕ) → word_in_row w p < 2 ^ 64
      word_fits p = elim (cases_lt p LAYER1_START) [
        | inl h0 ↦ rw (in_layer0 w p h0) (fits 0 p)
        | inr k0 ↦ elim (cases_lt p LAYER2_START) [
          | inl h1 ↦ rw (in_layer1 w p k0 h1) (fits 1 (p - LAYER1_START))
          | inr k1 ↦ elim (cases_lt p LAYER3_START) [
            | inl h2 ↦ rw (in_layer2 w p k1 h2) (fits 2 (p - LAYER2_START))
            | inr k2 ↦ rw (in_layer3 w p k2) (fits 3 0)
          ]
        ]
      ]

  -- the word q of layer l, at place p of the row
  one_up : (l q p : ℕ) → l + 1 < 4 → slice_index row p ≡ w l q → slice_index row (LAYER1_START + p / 64) ≡ w (l + 1) (q / 64) → p % 64 ≡ q % 64 → IsSet row (ATOMIC_MAX_EID + p) ↔ (0 < slice_index row p)
  one_up l q p below here there bit =
      let at : (ATOMIC_MAX_EID + p) / 64 ≡ LAYER1_START + p / 64 = omega arith in
      let b-is : (ATOMIC_MAX_EID + p) % 64 ≡ q % 64 = omega arith in
      let q-is : 64 * (q / 64) + q % 64 ≡ q = omega arith in
      let sum = exact.summed l (q / 64) (q % 64) below (omega arith) in
      let sum_here = rw q-is at sum in
      rw (at, b-is, there, here) sum_here

  -- The bit over a word is set exactly where the word is not 0.
  up : (p : ℕ) → p < LAYER3_START → IsSet row (ATOMIC_MAX_EID + p) ↔ (0 < slice_index row p)
  up p within = elim (cases_lt p LAYER1_START) [
    | inl h0 ↦ one_up 0 p p (lit< tt) (words p (omega arith) ∙ in_layer0 w p h0)
        (words (LAYER1_START + p / 64) (omega arith) ∙ (in_layer1 w (LAYER1_START + p / 64) (omega arith) (omega arith) ∙ ap (w 1) (let e : LAYER1_START + p / 64 - LAYER1_START ≡ p / 64 = omega arith in e))) refl
    | inr k0 ↦ elim (cases_lt p LAYER2_START) [
      | inl h1 ↦ one_up 1 (p - LAYER1_START) p (lit< tt) (words p (omega arith) ∙ in_layer1 w p k0 h1)
          (words (LAYER1_START + p / 64) (omega arith) ∙ (in_layer2 w (LAYER1_START + p / 64) (omega arith) (omega arith) ∙ ap (w 2) (let e : LAYER1_START + p / 64 - LAYER2_START ≡ (p - LAYER1_START) / 64 = omega arith in e))) (omega arith)
      | inr k1 ↦ one_up 2 (p - LAYER2_START) p (lit< tt) (words p (omega arith) ∙ in_layer2 w p k1 within)
          (words (LAYER1_START + p / 64) (omega arith) ∙ (in_layer3 w (LAYER1_START + p / 64) (omega arith) ∙ ap (w 3) (let e : 0 ≡ (p - LAYER2_START) / 64 = omega arith in e))) (omega arith)
    ]
  ]

  pub row_summed : SummariesOverNonzero row
  row_summed p lit = elim (cases_lt p LAYER3_START) [
    | inl within ↦ some_mark row p (row_fits p) ((up p within).0 lit)
    | inr past ↦ absurd (let none = get_or_past row ((ATOMIC_MAX_EID + p) / 64) 0 (omega (arith, long, past)) in let some = lit_some row (ATOMIC_MAX_EID + p) lit in omega (arith, none, some))
  ]

  next : (m : ℕ) → m / 64 < LAYER3_START → IsSet row m → IsSet row (above m)
  next m within lit = (up (m / 64) within).1 (lit_some row m lit)

  pub row_rooted : OldPathsSet row row
  row_rooted i small lit =
      let l1 = next i (omega arith) lit in
      let l2 = next (above i) (omega arith) l1 in
      let l3 = next (above (above i)) (omega arith) l2 in
      (lit, l1, l2, l3)

-- the bits of words that are the same in layer 0
module _ (w : ℕ → ℕ → ℕ) (row : List ℕ) (words : (p : ℕ) → p < LAYER1_START → w 0 p ≡ slice_index row p) (i : ℕ) (small : i < ATOMIC_MAX_EID) where
  pub lit_held : IsSet row i → holds_at w i ≡ true
  lit_held lit = rw (words (i / 64) (omega arith), lit) refl

  pub held_lit : holds_at w i ≡ true → IsSet row i
  held_lit holds = (let e = words (i / 64) (omega arith) in let f = rw e at holds in let g : bit_at (slice_index row (i / 64)) (i % 64) ≡ 1 = grind (arith, nat_tests, f) in g)
