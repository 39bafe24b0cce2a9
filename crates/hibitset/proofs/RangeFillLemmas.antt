-- The bits of a range are set, in each layer over the words that it touches. Or they are cleared, in each layer over
-- the words that have become zero.
use Rattle.std.proofs.Common.{◌≡◌, ◌≢◌, ◌⊎◌, ◌↔◌, ℕ, zero, suc, ◌+◌, ◌-◌, ◌*◌, ◌/◌, ◌%◌, ◌^◌, ◌<◌, ◌≤◌, ◌==◌, ◌||◌, Bool, true, false, cond, true≢false, refl, sym, ap, ◌∙◌, arith, lit<, inl, inr, max}
use Rattle.std.specs.Int.{bit_at}
use Rattle.std.proofs.Math.Nat.{pow-suc, one-le-pow, div-div-eq-div-mul, div-lt_iff_lt-mul, div-mul-le_self}
use Rattle.std.proofs.lemmas.Bool.{cases_lt}
use Rattle.std.proofs.lemmas.Bool.Decides.{nat_tests}
use Rattle.std.proofs.lemmas.Nat.Bits.{bit_at_ones, bit_at-zero, same_from_bits_below}
use Rattle.hibitset_base.specs.Decisions.{same_or_not, eq_other}
use Rattle.hibitset_base.specs.Sets.{bit_of}
use Rattle.hibitset_base.specs.Words.{SummariesExactEverywhere, holds_at}
use Rattle.hibitset_base.proofs.MembershipLemmas.{bit_test}
use Rattle.hibitset_base.proofs.MemberLemmas.{true_or_false}
use Rattle.hibitset.specs.WordBits.{in_range, PutsRange, SummariesExactOutside}
use Rattle.hibitset_base.specs.declared.util.TheConstants.{LAYERS}
use Rattle.hibitset.specs.Layers.{len_in}
use Rattle.hibitset.specs.declared.layers.Layers.{Layers}
use Rattle.hibitset.proofs.LayerLemmas.{has_above}
use Rattle.hibitset.proofs.MergeLemmas.{some_word}

-- `ones` or none
word_bit : (stands : Bool) (b : ℕ) → b < 64 → bit_at (cond stands (2 ^ 64 - 1) 0) b ≡ bit_of stands
word_bit true b small = bit_at_ones 64 b small
word_bit false b small = bit_at-zero b

module _ (stands : Bool) (from to : ℕ) (order : from < to) where
  -- one word, with the bits of the range put
  module _ (old new : ℕ → ℕ) (place bits : ℕ) (here : (b : ℕ) → b < 64 → bit_at (new place) b ≡ cond (bit_at bits b == 1) (bit_of stands) (bit_at (old place) b)) (are : (b : ℕ) → b < 64 → bit_at bits b ≡ bit_of (in_range from to (64 * place + b))) where
    put_word : (b : ℕ) → b < 64 → bit_at (new place) b ≡ cond (in_range from to (64 * place + b)) (bit_of stands) (bit_at (old place) b)
    put_word b small = rw (here b small, are b small, bit_test (in_range from to (64 * place + b))) refl

    -- no other word has bits of the range
    pub put_one : from / 64 ≡ place → (to - 1) / 64 ≡ place → ((p : ℕ) → p ≢ place → new p ≡ old p) → PutsRange stands from to old new
    put_one first last others = record {
      bits = λ p b small. elim (same_or_not p place) [
        | inl is ↦ rw is (put_word b small)
        | inr other ↦
            let out : in_range from to (64 * p + b) ≡ false = (let d : p ≢ place = other in grind (arith, nat_tests)) in
            rw (out, others p other) refl
      ];
    }

  -- a first word and a last one, and words that are all the same between
  pub put_more : (w u v x : ℕ → ℕ) (first last bits_first bits_last : ℕ) → from / 64 ≡ first → (to - 1) / 64 ≡ last → first < last
      → ((b : ℕ) → b < 64 → bit_at (u first) b ≡ cond (bit_at bits_first b == 1) (bit_of stands) (bit_at (w first) b)) → ((b : ℕ) → b < 64 → bit_at bits_first b ≡ bit_of (in_range from to (64 * first + b))) → ((p : ℕ) → p ≢ first → u p ≡ w p)
      → ((p : ℕ) → first + 1 ≤ p → p < last → v p ≡ cond stands (2 ^ 64 - 1) 0) → ((p : ℕ) → (p < first + 1) ⊎ (last ≤ p) → v p ≡ u p)
      → ((b : ℕ) → b < 64 → bit_at (x last) b ≡ cond (bit_at bits_last b == 1) (bit_of stands) (bit_at (v last) b)) → ((b : ℕ) → b < 64 → bit_at bits_last b ≡ bit_of (in_range from to (64 * last + b))) → ((p : ℕ) → p ≢ last → x p ≡ v p) → PutsRange stands from to w x
  put_more w u v x first last bits_first bits_last first-is last-is apart u-first are_first u-others v-inside v-outside x-last are_last x-others = record {
    bits = λ p b small. elim (cases_lt p first) [
      | inl before ↦
          let out : in_range from to (64 * p + b) ≡ false = grind (arith, nat_tests) in
          let same : x p ≡ w p = x-others p (omega (arith, before, apart)) ∙ (v-outside p (inl (omega (arith, before))) ∙ u-others p (omega (arith, before))) in
          rw (out, same) refl
      | inr upto ↦ elim (same_or_not p first) [
        | inl is ↦
            let same : x first ≡ u first = x-others first (omega (arith, apart)) ∙ v-outside first (inl (omega arith)) in
            rw is (ap (λ z. bit_at z b) same ∙ put_word w u first bits_first u-first are_first b small)
        | inr later ↦ elim (cases_lt p last) [
          | inl between ↦
              let inside : in_range from to (64 * p + b) ≡ true = grind (arith, nat_tests) in
              let all : x p ≡ cond stands (2 ^ 64 - 1) 0 = x-others p (omega (arith, between)) ∙ v-inside p (omega (arith, upto, later)) between in
              rw (inside, all) (word_bit stands b small)
          | inr past ↦ elim (same_or_not p last) [
            | inl is ↦
                let same : v last ≡ w last = v-outside last (inr (omega arith)) ∙ u-others last (omega (arith, apart)) in
                rw is (put_word v x last bits_last x-last are_last b small ∙ ap (λ z. cond (in_range from to (64 * last + b)) (bit_of stands) (bit_at z b)) same)
            | inr after ↦
                let out : in_range from to (64 * p + b) ≡ false = grind (arith, nat_tests) in
                let same : x p ≡ w p = x-others p after ∙ (v-outside p (inr past) ∙ u-others p (omega (arith, upto, later))) in
                rw (out, same) refl
          ]
        ]
      ]
    ];
  }

-- the bits of a layer, by those of the layer below
pub within_next : (n layer to : ℕ) → layer + 1 < n → to ≤ 64 ^ (n - layer) → (to - 1) / 64 + 1 ≤ 64 ^ (n - (layer + 1))
within_next n layer to below within =
    let size : 64 ^ (n - layer) ≡ 64 ^ (n - (layer + 1)) * 64 = (let s : n - layer ≡ suc (n - (layer + 1)) = omega (arith, below) in ap (λ x. 64 ^ x) s ∙ pow-suc 64 (n - (layer + 1))) in
    let some : 0 < 64 ^ (n - (layer + 1)) = one-le-pow (n - (layer + 1)) 64 (lit< tt) in
    omega (arith, size, within, some)

pub room_next : (x : Layers) (layer to : ℕ) → layer + 1 < LAYERS - 1 → 0 < to → to ≤ 64 * len_in x layer → (to - 1) / 64 + 1 ≤ 64 * len_in x (layer + 1)
room_next x layer to below some room = let h = has_above x layer ((to - 1) / 64) below (omega (arith, some, room)) in omega (arith, h)

-- the places over a range: over its first position and its last one
pub up : (i l : ℕ) → i / 64 ^ l / 64 ≡ i / 64 ^ (l + 1)
up i l = div-div-eq-div-mul i (64 ^ l) 64 ∙ ap (λ x. i / x) (sym (let s : l + 1 ≡ suc l = omega arith in ap (λ k. 64 ^ k) s ∙ pow-suc 64 l))

ordered : (i j k : ℕ) → 0 < k → i ≤ j → i / k ≤ j / k
ordered i j k some upto = elim (cases_lt (j / k) (i / k)) [
  | inl wrong ↦ absurd (
      let h : j < i / k * k = (div-lt_iff_lt-mul some).0 wrong in
      let b = div-mul-le_self i k in
      omega (arith, h, b, upto))
  | inr right ↦ right
]

-- a word over the range has some bit after the range was set
some_inside : (from to : ℕ) → from < to → (old new : ℕ → ℕ) → PutsRange true from to old new → (q : ℕ) → from / 64 ≤ q → q ≤ (to - 1) / 64 → 0 < new q
some_inside from to order old new filled q low high =
    let b : ℕ = max from (64 * q) - 64 * q in
    let small : b < 64 = omega (arith, low) in
    let inside : in_range from to (64 * q + b) ≡ true = grind (arith, nat_tests, order) in
    some_word (new q) b (filled.bits q b small ∙ rw inside refl)

-- a word that lies outside the range is as it was
same_outside : (stands : Bool) (from to : ℕ) → from < to → (old new : ℕ → ℕ) → PutsRange stands from to old new → (q : ℕ) → new q < 2 ^ 64 → old q < 2 ^ 64 → (q < from / 64) ⊎ ((to - 1) / 64 < q) → new q ≡ old q
same_outside stands from to order old new put q new_fits old_fits apart = same_from_bits_below 64 (new q) (old q) new_fits old_fits (λ b small.
    let out : in_range from to (64 * q + b) ≡ false = elim apart [
      | inl low ↦ grind (arith, nat_tests)
      | inr high ↦ grind (arith, nat_tests)
    ] in
    put.bits q b small ∙ rw out refl)

-- the same words may stand for the old ones and the new ones
pub put_same : (stands : Bool) (from to : ℕ) (u v old new : ℕ → ℕ) → ((p : ℕ) → u p ≡ old p) → ((p : ℕ) → new p ≡ v p) → PutsRange stands from to u v → PutsRange stands from to old new
put_same stands from to u v old new before after put = record {
  bits = λ p b small. ap (λ x. bit_at x b) (after p) ∙ (put.bits p b small ∙ ap (λ x. cond (in_range from to (64 * p + b)) (bit_of stands) (bit_at x b)) (before p));
}

-- Where a range is set in each layer, over the words that the one below touches, exact summaries are exact again.
pub filled_summed : (n : ℕ) (old new : ℕ → ℕ → ℕ) (start end : ℕ) → start < end → SummariesExactEverywhere n old → ((l p : ℕ) → new l p < 2 ^ 64) → ((l p : ℕ) → old l p < 2 ^ 64)
    → ((l : ℕ) → l < n → PutsRange true (start / 64 ^ l) ((end - 1) / 64 ^ l + 1) (old l) (new l)) → SummariesExactEverywhere n new
filled_summed n old new start end order summed new_fits old_fits filled = record {
  summed = λ l p b below small.
      let q : ℕ = 64 * p + b in
      let from : ℕ = start / 64 ^ l in
      let to : ℕ = (end - 1) / 64 ^ l + 1 in
      let here : from < to = (let h = ordered start (end - 1) (64 ^ l) (one-le-pow l 64 (lit< tt)) (omega (arith, order)) in omega (arith, h)) in
      let upper = filled (l + 1) below in
      let lower = filled l (omega (arith, below)) in
      let first : from / 64 ≡ start / 64 ^ (l + 1) = up start l in
      let last : (to - 1) / 64 ≡ (end - 1) / 64 ^ (l + 1) = (let e : to - 1 ≡ (end - 1) / 64 ^ l = omega arith in rw e (up (end - 1) l)) in
      elim (true_or_false (in_range (start / 64 ^ (l + 1)) ((end - 1) / 64 ^ (l + 1) + 1) q)) [
        | inl inside ↦
            let some : 0 < new l q = some_inside from to here (old l) (new l) lower q (grind (arith, nat_tests, first)) (grind (arith, nat_tests, last)) in
            (λ on. some, λ h. upper.bits p b small ∙ rw inside refl)
        | inr outside ↦
            let apart : (q < from / 64) ⊎ ((to - 1) / 64 < q) = elim (cases_lt q (from / 64)) [
              | inl low ↦ inl low
              | inr high ↦ inr (grind (arith, nat_tests, first, last))
            ] in
            let same : new l q ≡ old l q = same_outside true from to here (old l) (new l) lower q (new_fits l q) (old_fits l q) apart in
            let bit : bit_at (new (l + 1) p) b ≡ bit_at (old (l + 1) p) b = upper.bits p b small ∙ rw outside refl in
            let before = summed.summed l p b below small in
            (λ on. rw same (before.0 (sym bit ∙ on)), λ h. bit ∙ before.1 (rw same at h))
      ];
}

-- The bits of a layer were cleared at the positions of a range that lie over zero words, and the next range lies over
-- those of its words that have become zero.
module _ (n : ℕ) (old new : ℕ → ℕ → ℕ) (k from to : ℕ) (order : from < to) (beside : SummariesExactOutside n old k from to) (cleared : PutsRange false from to (old k) (new k))
    (others : (l p : ℕ) → l ≢ k → new l p ≡ old l p) (new_fits : (l p : ℕ) → new l p < 2 ^ 64) (old_fits : (l p : ℕ) → old l p < 2 ^ 64) where
  -- summaries up to layer k are exact then
  lower_exact : (l p b : ℕ) → l + 1 < n → b < 64 → l ≢ k → (bit_at (new (l + 1) p) b ≡ 1) ↔ (0 < new l (64 * p + b))
  lower_exact l p b below small apart = elim (same_or_not (l + 1) k) [
    | inl is ↦
        let word : new l (64 * p + b) ≡ old l (64 * p + b) = others l (64 * p + b) apart in
        let bit : bit_at (new (l + 1) p) b ≡ cond (in_range from to (64 * p + b)) 0 (bit_at (old (l + 1) p) b) = rw is (cleared.bits p b small) in
        elim (true_or_false (in_range from to (64 * p + b))) [
          | inl inside ↦
              let zero_word = beside.none l (64 * p + b) is inside in
              let off : bit_at (new (l + 1) p) b ≡ 0 = bit ∙ rw inside refl in
              (λ on. absurd (omega (arith, on, off)), λ some. absurd (omega (arith, some, word, zero_word)))
          | inr outside ↦
              let before = beside.off l p b below small (λ e. outside) in
              let same : bit_at (new (l + 1) p) b ≡ bit_at (old (l + 1) p) b = bit ∙ rw outside refl in
              (λ on. rw word (before.0 (sym same ∙ on)), λ some. same ∙ before.1 (rw word at some))
        ]
    | inr other ↦
        let before = beside.off l p b below small (λ e. absurd (other e)) in
        let word : new l (64 * p + b) ≡ old l (64 * p + b) = others l (64 * p + b) apart in
        let same : bit_at (new (l + 1) p) b ≡ bit_at (old (l + 1) p) b = ap (λ x. bit_at x b) (others (l + 1) p other) in
        (λ on. rw word (before.0 (sym same ∙ on)), λ some. same ∙ before.1 (rw word at some))
  ]

  -- where k is the top layer, all are
  pub beside_top : n ≡ k + 1 → SummariesExactEverywhere n new
  beside_top top = record { summed = λ l p b below small. lower_exact l p b below small (omega (arith, top, below)) }

  kept : (q : ℕ) → (q < from / 64) ⊎ ((to - 1) / 64 < q) → new k q ≡ old k q
  kept q apart = same_outside false from to order (old k) (new k) cleared q (new_fits k q) (old_fits k q) apart

  -- one between its first and last words is 0
  between : (q : ℕ) → from / 64 < q → q < (to - 1) / 64 → new k q ≡ 0
  between q low high = same_from_bits_below 64 (new k q) 0 (new_fits k q) (lit< tt) (λ b small.
      let inside : in_range from to (64 * q + b) ≡ true = grind (arith, nat_tests) in
      cleared.bits q b small ∙ (rw inside refl ∙ sym (bit_at-zero b)))

  -- and one that is not 0 was not
  some_before : (q : ℕ) → 0 < new k q → 0 < old k q
  some_before q some = elim (cases_lt 0 (old k q)) [
    | inl there ↦ there
    | inr none ↦ absurd (
        let zero_word : old k q ≡ 0 = omega (arith, none) in
        let all : new k q ≡ 0 = same_from_bits_below 64 (new k q) 0 (new_fits k q) (lit< tt) (λ b small. cleared.bits q b small ∙ no_bit (in_range from to (64 * q + b)) (bit_at (old k q) b) b (ap (λ x. bit_at x b) zero_word)) in
        omega (arith, all, some))
  ]
    where
      no_bit : (r : Bool) (x b : ℕ) → x ≡ bit_at 0 b → cond r 0 x ≡ bit_at 0 b
      no_bit true x b e = sym (bit_at-zero b)
      no_bit false x b e = e

  module _ (next_from next_to : ℕ) (from-is : next_from ≡ cond (new k (from / 64) == 0) (from / 64) (from / 64 + 1)) (to-is : next_to ≡ cond (new k ((to - 1) / 64) == 0) ((to - 1) / 64 + 1) ((to - 1) / 64)) where
    blank_or : (x y z : ℕ) (a : ℕ) → a ≡ cond (x == 0) y z → ((x ≡ 0) × (a ≡ y)) ⊎ ((0 < x) × (a ≡ z))
    blank_or zero y z a e = inl (refl, e)
    blank_or (suc x) y z a e = inr (omega arith, (let some : (suc x == 0) ≡ false = eq_other (suc x) 0 (λ h. absurd (omega (arith, h))) in rw some at e))

    first_or : ((new k (from / 64) ≡ 0) × (next_from ≡ from / 64)) ⊎ ((0 < new k (from / 64)) × (next_from ≡ from / 64 + 1))
    first_or = blank_or (new k (from / 64)) (from / 64) (from / 64 + 1) next_from from-is

    last_or : ((new k ((to - 1) / 64) ≡ 0) × (next_to ≡ (to - 1) / 64 + 1)) ⊎ ((0 < new k ((to - 1) / 64)) × (next_to ≡ (to - 1) / 64))
    last_or = blank_or (new k ((to - 1) / 64)) ((to - 1) / 64 + 1) ((to - 1) / 64) next_to to-is

    inside_next : (q : ℕ) → in_range next_from next_to q ≡ true → new k q ≡ 0
    inside_next q inside =
        let low : next_from ≤ q = grind (arith, nat_tests) in
        let high : q < next_to = grind (arith, nat_tests) in
        elim (same_or_not q (from / 64)) [
          | inl first ↦ elim first_or [
            | inl (z, at) ↦ rw first z
            | inr (some, at) ↦ absurd (omega (arith, at, low, first))
          ]
          | inr other ↦ elim (same_or_not q ((to - 1) / 64)) [
            | inl last ↦ elim last_or [
              | inl (z, at) ↦ rw last z
              | inr (some, at) ↦ absurd (omega (arith, at, high, last))
            ]
            | inr another ↦
                let after : from / 64 ≤ next_from = elim first_or [ inl (z, at) ↦ omega (arith, at) | inr (some, at) ↦ omega (arith, at) ] in
                let before : next_to ≤ (to - 1) / 64 + 1 = elim last_or [ inl (z, at) ↦ omega (arith, at) | inr (some, at) ↦ omega (arith, at) ] in
                between q (omega (arith, low, after, other)) (omega (arith, high, before, another))
          ]
        ]

    outside_next : (q : ℕ) → in_range next_from next_to q ≡ false → (0 < old k q) ↔ (0 < new k q)
    outside_next q outside = elim (cases_lt q (from / 64)) [
      | inl low ↦ (let e = kept q (inl low) in (λ h. omega (arith, h, e), λ h. omega (arith, h, e)))
      | inr upto ↦ elim (cases_lt ((to - 1) / 64) q) [
        | inl high ↦ (let e = kept q (inr high) in (λ h. omega (arith, h, e), λ h. omega (arith, h, e)))
        | inr within ↦
            let some : 0 < new k q = elim (cases_lt q next_from) [
              | inl before ↦ elim first_or [
                | inl (z, at) ↦ absurd (omega (arith, at, before, upto))
                | inr (some, at) ↦ (let is : q ≡ from / 64 = omega (arith, at, before, upto) in rw is some)
              ]
              | inr from-on ↦ elim (cases_lt q next_to) [
                | inl before ↦ absurd (let wrong : in_range next_from next_to q ≡ true = grind (arith, nat_tests) in true≢false (sym wrong ∙ outside))
                | inr past ↦ elim last_or [
                  | inl (z, at) ↦ absurd (omega (arith, at, past, within))
                  | inr (some, at) ↦ (let is : q ≡ (to - 1) / 64 = omega (arith, at, past, within) in rw is some)
                ]
              ]
            ] in
            (λ h. some, λ h. some_before q h)
      ]
    ]

    pub beside_next : SummariesExactOutside n new (k + 1) next_from next_to
    beside_next = record {
      off = λ l p b below small out. elim (same_or_not l k) [
        | inl is ↦
            let before = beside.off l p b below small (λ e. absurd (omega (arith, e, is))) in
            let outside = out (omega (arith, is)) in
            let upper : new (l + 1) p ≡ old (l + 1) p = others (l + 1) p (omega (arith, is)) in
            let words : (0 < old l (64 * p + b)) ↔ (0 < new l (64 * p + b)) = rw is (outside_next (64 * p + b) outside) in
            (λ on. words.0 (before.0 (rw upper at on)), λ some. rw upper (before.1 (words.1 some)))
        | inr apart ↦ lower_exact l p b below small apart
      ];
      none = λ l q is inside. let same : l ≡ k = omega (arith, is) in rw same (inside_next q inside);
    }

-- before the first layer all are exact
pub beside_start : (n from to : ℕ) (word : ℕ → ℕ → ℕ) → SummariesExactEverywhere n word → SummariesExactOutside n word 0 from to
beside_start n from to word summed = record { off = λ l p b below small out. summed.summed l p b below small; none = λ l q is. absurd (omega (arith, is)) }

-- the members of a set in whose layer 0 a range was set
pub filled_holds : (old new : ℕ → ℕ → ℕ) (start end : ℕ) → PutsRange true start end (old 0) (new 0) → (i : ℕ) → holds_at new i ≡ (holds_at old i || in_range start end i)
filled_holds old new start end filled i =
    let whole : 64 * (i / 64) + i % 64 ≡ i = omega arith in
    let bit : bit_at (new 0 (i / 64)) (i % 64) ≡ cond (in_range start end i) 1 (bit_at (old 0 (i / 64)) (i % 64)) = rw whole at (filled.bits (i / 64) (i % 64) (omega arith)) in
    ap (λ x. x == 1) bit ∙ tested (in_range start end i) (bit_at (old 0 (i / 64)) (i % 64))
  where
    or_with : (r b : Bool) → cond r true b ≡ (b || r)
    or_with true true = refl
    or_with true false = refl
    or_with false true = refl
    or_with false false = refl

    tested : (r : Bool) (x : ℕ) → (cond r 1 x == 1) ≡ ((x == 1) || r)
    tested true x = or_with true (x == 1)
    tested false x = or_with false (x == 1)
