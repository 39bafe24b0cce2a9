-- A word's bits are cut in two.
use Rattle.std.proofs.Common.{◌≡◌, ◌≢◌, ℕ, zero, suc, ◌+◌, ◌-◌, ◌*◌, ◌/◌, ◌%◌, ◌^◌, ◌<◌, ◌≤◌, ◌==◌, Bool, List, [], ◌∷◌, ◌++◌, All, length, get_or, bit_and, refl, sym, ◌∙◌, ap, subst, arith, inl, inr, lit<}
use Rattle.std.specs.Int.{bit_at, bit_not, w64, trailing_zeros}
use Rattle.std.specs.Int.RustNames.{count_ones}
use Rattle.std.proofs.Math.ListN.{set}
use Rattle.std.proofs.Math.Nat.{pow-succ', pow-le-pow_right, one-le-pow, eq-or-lt_of_le}
use Rattle.std.proofs.lemmas.Bool.{cases_lt}
use Rattle.std.proofs.lemmas.Nat.{ones_le_self, and_le_l}
use Rattle.std.proofs.lemmas.List.{append-nil, get_or-set_same, get_or-set_other, map-append, length-set, length-map, length-append}
use Rattle.std.proofs.lemmas.List.Elements.{All-nil}
use Rattle.std.proofs.lemmas.Nat.Bits.{bit_at-lt, bit_at-zero, bit_at_and, bit_at_not, bit_at_ones, bit_at_ones_above, bit_at_above, bit_at-trailing_zeros}
use Rattle.hibitset_base.specs.Members.{members}
use Rattle.hibitset_base.specs.MiddleBit.{IsHalvingBit}
use Rattle.hibitset_base.specs.Places.{Place, places_in, places_left, bits_from, IsWellFormed}
use Rattle.hibitset_base.specs.PlaceHalves.{HasOneMask, LiesInWord, AreCut}
use Rattle.hibitset_base.proofs.MemberLemmas.{members-none, members-same, members-append}
use Rattle.hibitset_base.proofs.OnesFromLemmas.{none_before}
use Rattle.hibitset_base.proofs.OneCountLemmas.{bits-count}
use Rattle.hibitset_base.proofs.MiddleBitLemmas.{same_ones}
use Rattle.hibitset_base.proofs.PlaceLemmas.{eq_one, eq_none, bits-none, left-none}
use Rattle.hibitset_base.proofs.LayerLemmas.{zero_or_above}
use Rattle.hibitset_base.proofs.DescentLemmas.{one_of, all-members}
use Rattle.hibitset_base.proofs.ReadBoundLemmas.{some-members}

-- the places of masks of which one alone has bits
pub left-alone : (k x l : ℕ) (ms ps : List ℕ) → x ≡ l + k → k < length ms → ((j : ℕ) → j ≢ k → get_or ms j 0 ≡ 0)
    → places_left l ms ps ≡ places_in x (bits_from (get_or ps k 0) (get_or ms k 0))
left-alone k x l [] ps e wide alone = absurd (omega arith)
left-alone zero x l (m ∷ ms) [] e wide alone =
    let f : x ≡ l = omega arith in
    rw (f, left-none (suc l) ms [] (λ j within. alone (suc j) (omega arith))) (append-nil (places_in l (bits_from 0 m)))
left-alone zero x l (m ∷ ms) (p ∷ ps) e wide alone =
    let f : x ≡ l = omega arith in
    rw (f, left-none (suc l) ms ps (λ j within. alone (suc j) (omega arith))) (append-nil (places_in l (bits_from p m)))
left-alone (suc k) x l (m ∷ ms) [] e wide alone =
    ap (λ ys. places_in l ys ++ places_left (suc l) ms []) (bits-none 0 m (alone 0 (omega arith)))
    ∙ left-alone k x (suc l) ms [] (omega arith) (omega arith) (λ j other. alone (suc j) (omega arith))
left-alone (suc k) x l (m ∷ ms) (p ∷ ps) e wide alone =
    ap (λ ys. places_in l ys ++ places_left (suc l) ms ps) (bits-none p m (alone 0 (omega arith)))
    ∙ left-alone k x (suc l) ms ps (omega arith) (omega arith) (λ j other. alone (suc j) (omega arith))

-- where at most one mask has bits, some layer alone has any
pub alone_in : (ms : List ℕ) → 0 < length ms → HasOneMask (length ms) ms → (l : ℕ) × (l < length ms) × ((j : ℕ) → j ≢ l → get_or ms j 0 ≡ 0)
alone_in [] some one = absurd (omega arith)
alone_in (m ∷ ms) some one = elim (zero_or_above m) [
  | inr here ↦ (0, omega arith, first here)
  | inl none ↦ elim (zero_or_above (length ms)) [
    | inl end ↦ (0, omega arith, first_end end)
    | inr more ↦ later none (alone_in ms more (λ l k lower within some2. one (suc l) (suc k) (omega arith) (omega arith) some2))
  ]
]
  where
    past : (xs : List ℕ) (j : ℕ) → length xs ≤ j → get_or xs j 0 ≡ 0
    past [] j from = refl
    past (x ∷ xs) zero from = absurd (omega arith)
    past (x ∷ xs) (suc j) from = past xs j (omega arith)

    first : 0 < m → (j : ℕ) → j ≢ 0 → get_or (m ∷ ms) j 0 ≡ 0
    first here zero other = absurd (other refl)
    first here (suc j) other = elim (cases_lt (suc j) (suc (length ms))) [
      | inl within ↦ one 0 (suc j) (omega arith) within here
      | inr from ↦ past ms j (omega arith)
    ]

    first_end : length ms ≡ 0 → (j : ℕ) → j ≢ 0 → get_or (m ∷ ms) j 0 ≡ 0
    first_end end zero other = absurd (other refl)
    first_end end (suc j) other = past ms j (omega arith)

    later : m ≡ 0 → (l : ℕ) × (l < length ms) × ((j : ℕ) → j ≢ l → get_or ms j 0 ≡ 0) → (l : ℕ) × (l < suc (length ms)) × ((j : ℕ) → j ≢ l → get_or (m ∷ ms) j 0 ≡ 0)
    later none (l, within, others) = (suc l, omega arith, go)
      where
        go : (j : ℕ) → j ≢ suc l → get_or (m ∷ ms) j 0 ≡ 0
        go zero other = none
        go (suc j) other = others j (omega arith)

pub alone_within : (n : ℕ) (ms : List ℕ) → 0 < n → length ms ≡ n → HasOneMask n ms → (l : ℕ) × (l < n) × ((j : ℕ) → j ≢ l → get_or ms j 0 ≡ 0)
alone_within n ms some long one = rw (← long) (alone_in ms (omega arith) (rw (← long) at one))

-- where a layer above the lowest is empty, it is not the one that has bits; where it is not, it is the one
pub alone_below : (ms : List ℕ) (layer : ℕ) → 0 < layer → get_or ms layer 0 ≡ 0 → (l : ℕ) × (l < layer + 1) × ((j : ℕ) → j ≢ l → get_or ms j 0 ≡ 0) → (l : ℕ) × (l < layer) × ((j : ℕ) → j ≢ l → get_or ms j 0 ≡ 0)
alone_below ms layer above none (l, within, others) = elim (cases_lt l layer) [
  | inl lower ↦ (l, lower, others)
  | inr from ↦ (
    0,
    above,
    λ j other. elim (cases_lt j layer) [
      | inl a ↦ others j (omega arith)
      | inr b ↦ elim (eq-or-lt_of_le b) [ inl e ↦ subst (λ x. get_or ms x 0 ≡ 0) e none | inr c ↦ others j (omega arith) ]
    ],
  )
]

pub alone_here : (ms : List ℕ) (layer : ℕ) → 0 < get_or ms layer 0 → (l : ℕ) × (l < layer + 1) × ((j : ℕ) → j ≢ l → get_or ms j 0 ≡ 0) → (j : ℕ) → j ≢ layer → get_or ms j 0 ≡ 0
alone_here ms layer some (l, within, others) j other = elim (cases_lt l layer) [
  | inl lower ↦ absurd (let z = others layer (omega arith) in omega (arith, z, some))
  | inr from ↦ others j (omega arith)
]

-- the places of a mask lie in one word
pub in_word : (n l s m : ℕ) → l < n → s % 64 ≡ 0 → s < 64 ^ (n - l) → LiesInWord n l (places_in l (bits_from s m))
in_word n l s m layer aligned within =
    let d : ℕ = n - 1 - l in
    let d-is : n - l ≡ suc d = omega arith in
    let e : 64 ^ suc d ≡ 64 * 64 ^ d = pow-succ' 64 d in
    let within_here : s < 64 ^ suc d = rw d-is at within in
    record {
      layer = layer;
      word = s / 64;
      within = omega arith;
      places = all-members (λ place. (place.layer ≡ l) × (place.position / 64 ≡ s / 64)) l (λ q. bit_at m (q - s) == 1) s 64 (λ i from below stands. (refl, omega arith));
    }

-- no place lies in any word
pub none_in_word : (n l : ℕ) (ps : List Place) → l < n → ps ≡ [] → LiesInWord n l ps
none_in_word n l ps layer none = record {
  layer = layer;
  word = 0;
  within = one-le-pow (n - 1 - l) 64 (lit< tt);
  places = rw none (All-nil (λ place. (place.layer ≡ l) × (place.position / 64 ≡ 0)));
}

-- The bits of a word m below bit b are those of low, and the others those of high.
pub record CutsAt (m b low high : ℕ) : Type 0 where
  pub here : b < 64
  pub low_same : (j : ℕ) → j < b → bit_at low j ≡ bit_at m j
  pub low_none : (j : ℕ) → b ≤ j → j < 64 → bit_at low j ≡ 0
  pub high_same : (j : ℕ) → b ≤ j → j < 64 → bit_at high j ≡ bit_at m j
  pub high_none : (j : ℕ) → j < b → bit_at high j ≡ 0

-- the bits below b, as code has them
pub lower_ones : (b : ℕ) → b < 64 → 1 * 2 ^ b % 18446744073709551616 - 1 ≡ 2 ^ b - 1
lower_ones b small =
    let h : 2 ^ b ≤ 2 ^ 63 = (let le : b ≤ 63 = omega arith in pow-le-pow_right {n = 2} (lit< tt) le) in
    omega arith

pub cuts_at : (m b : ℕ) → b < 64 → CutsAt m b (bit_and m (2 ^ b - 1)) (bit_and m (18446744073709551615 - (2 ^ b - 1)))
cuts_at m b here =
    let h : 2 ^ b ≤ 2 ^ 63 = (let le : b ≤ 63 = omega arith in pow-le-pow_right {n = 2} (lit< tt) le) in
    let fits : 2 ^ b - 1 < 2 ^ 64 = omega arith in
    record {
      here = here;
      low_same = λ j lower. let e = bit_at_and m (2 ^ b - 1) j in let one = bit_at_ones b j lower in let small = bit_at-lt m j in omega (arith, e, one, small);
      low_none = λ j from below. let e = bit_at_and m (2 ^ b - 1) j in let none = bit_at_ones_above b j from in omega (arith, e, none);
      high_same = λ j from below.
          let e = bit_at_and m (bit_not w64 (2 ^ b - 1)) j in
          let none = bit_at_ones_above b j from in
          let turned = bit_at_not w64 (2 ^ b - 1) j fits below in
          let small = bit_at-lt m j in
          omega (arith, e, none, turned, small);
      high_none = λ j lower.
          let e = bit_at_and m (bit_not w64 (2 ^ b - 1)) j in
          let one = bit_at_ones b j lower in
          let turned = bit_at_not w64 (2 ^ b - 1) j fits (omega arith) in
          omega (arith, e, one, turned);
    }

module _ (s m b low high : ℕ) (cuts : CutsAt m b low high) where
  test : ℕ → ℕ → Bool
  test v i = bit_at v (i - s) == 1

  pub bits_cut : bits_from s m ≡ bits_from s low ++ bits_from s high
  unfolding test
  bits_cut =
      let here = cuts.here in
      let e : 64 ≡ b + (64 - b) = omega arith in
      let whole : members (test m) s 64 ≡ members (test m) s b ++ members (test m) (s + b) (64 - b) = ap (members (test m) s) e ∙ members-append (test m) s b (64 - b) in
      let lower : members (test low) s 64 ≡ members (test low) s b ++ members (test low) (s + b) (64 - b) = ap (members (test low) s) e ∙ members-append (test low) s b (64 - b) in
      let upper : members (test high) s 64 ≡ members (test high) s b ++ members (test high) (s + b) (64 - b) = ap (members (test high) s) e ∙ members-append (test high) s b (64 - b) in
      let low_is : members (test low) s b ≡ members (test m) s b = members-same (test low) (test m) s b (λ i from below. ap (λ x. x == 1) (cuts.low_same (i - s) (omega arith))) in
      let low_ends : members (test low) (s + b) (64 - b) ≡ [] = members-none (test low) (s + b) (64 - b) (λ i from below. eq_none _ (cuts.low_none (i - s) (omega arith) (omega arith))) in
      let high_begins : members (test high) s b ≡ [] = members-none (test high) s b (λ i from below. eq_none _ (cuts.high_none (i - s) (omega arith))) in
      let high_is : members (test high) (s + b) (64 - b) ≡ members (test m) (s + b) (64 - b) =
      members-same (test high) (test m) (s + b) (64 - b) (λ i from below. ap (λ x. x == 1) (cuts.high_same (i - s) (omega arith) (omega arith))) in
      rw (whole, lower, upper, low_is, low_ends, high_begins, high_is) (ap (λ xs. xs ++ members (test m) (s + b) (64 - b)) (sym (append-nil (members (test m) s b))))

  low_before : (l : ℕ) → All (λ place. place.position < s + b) (places_in l (bits_from s low))
  low_before l = all-members (λ place. place.position < s + b) l (λ i. bit_at low (i - s) == 1) s 64 (λ i from below stands. elim (cases_lt i (s + b)) [
    | inl lower ↦ lower
    | inr later ↦ absurd (let z = cuts.low_none (i - s) (omega arith) (omega arith) in let o = one_of (bit_at low (i - s)) stands in omega (arith, z, o))
  ])

  high_from : (l : ℕ) → All (λ place. s + b ≤ place.position) (places_in l (bits_from s high))
  high_from l = all-members (λ place. s + b ≤ place.position) l (λ i. bit_at high (i - s) == 1) s 64 (λ i from below stands. elim (cases_lt i (s + b)) [
    | inl lower ↦ absurd (let z = cuts.high_none (i - s) (omega arith) in let o = one_of (bit_at high (i - s)) stands in omega (arith, z, o))
    | inr later ↦ later
  ])

  some_bit : (l v j : ℕ) → j < 64 → bit_at v j ≡ 1 → 0 < length (places_in l (bits_from s v))
  some_bit l v j small stands =
      let e : s + j - s ≡ j = omega arith in
      let h : 0 < length (bits_from s v) = some-members (λ i. bit_at v (i - s) == 1) s 64 (s + j) (omega arith) (omega arith) (eq_one _ (rw e stands)) in
      let k : length (places_in l (bits_from s v)) ≡ length (bits_from s v) = length-map (bits_from s v) (λ q. record { layer = l; position = q }) in
      omega arith

  count_places : (l v : ℕ) → v < 2 ^ 64 → length (places_in l (bits_from s v)) ≡ count_ones v
  count_places l v fits = length-map (bits_from s v) (λ q. record { layer = l; position = q }) ∙ bits-count s v fits

  -- the bits from the halving bit on are half of all
  upper_half : m < 2 ^ 64 → high < 2 ^ 64 → IsHalvingBit m b → count_ones high ≡ count_ones m / 2
  upper_half fits fits_high halves =
      let same = same_ones high m b (λ j from. elim (cases_lt j 64) [
        | inl below ↦ cuts.high_same j from below
        | inr past ↦ bit_at_above high 64 j fits_high past ∙ sym (bit_at_above m 64 j fits past)
      ]) in
      sym (none_before high b cuts.high_none) ∙ (same ∙ halves.2)

  -- a word is cut at its halving bit
  pub are_cut : (l : ℕ) → m < 2 ^ 64 → low < 2 ^ 64 → high < 2 ^ 64 → 1 < count_ones m → IsHalvingBit m b → AreCut (places_in l (bits_from s m)) (places_in l (bits_from s low)) (places_in l (bits_from s high))
  are_cut l fits fits_low fits_high two halves =
      let some : 0 < m = (elim (zero_or_above m) [ inl none ↦ absurd (let few = ones_le_self m in omega (arith, few, none, two)) | inr above ↦ above ]) in
      let t : ℕ = trailing_zeros w64 m in
      let first = bit_at-trailing_zeros w64 m some fits in
      let before : t < b = (elim (cases_lt t b) [
        | inl lower ↦ lower
        | inr from ↦ absurd (let all = none_before m b (λ i lower. first.2 i (omega arith)) in let half = halves.2 in omega (arith, all, half, two))
      ]) in
      let whole : places_in l (bits_from s m) ≡ places_in l (bits_from s low) ++ places_in l (bits_from s high) = ap (places_in l) bits_cut ∙ map-append (λ q. record { layer = l; position = q }) (bits_from s low) (bits_from s high) in
      let sum : length (places_in l (bits_from s m)) ≡ length (places_in l (bits_from s low)) + length (places_in l (bits_from s high)) = ap length whole ∙ length-append (places_in l (bits_from s low)) (places_in l (bits_from s high)) in
      let all = count_places l m fits in
      let after = count_places l high fits_high in
      let half = upper_half fits fits_high halves in
      record {
        all = whole;
        some_before = some_bit l low t (omega arith) (cuts.low_same t before ∙ first.1);
        some_after = some_bit l high b cuts.here (cuts.high_same b (omega arith) cuts.here ∙ halves.1);
        no_more_after = omega (arith, sum, all, after, half);
        one_more_before = omega (arith, sum, all, after, half);
        edge = s + b;
        lower = low_before l;
        upper = high_from l;
      }

-- where one mask alone has bits, all places lie in one word
pub alone_in_word : (n l : ℕ) (ms ps : List ℕ) → IsWellFormed n ms ps → l < n → ((j : ℕ) → j ≢ l → get_or ms j 0 ≡ 0) → LiesInWord n l (places_left 0 ms ps)
alone_in_word n l ms ps formed layer others =
    let long = formed.long in
    let e = left-alone l l 0 ms ps (omega arith) (omega arith) others in
    rw e (elim (zero_or_above (get_or ms l 0)) [
      | inl none ↦ none_in_word n l _ layer (ap (places_in l) (bits-none (get_or ps l 0) (get_or ms l 0) none))
      | inr some ↦ let a = formed.aligned l layer some in in_word n l (get_or ps l 0) (get_or ms l 0) layer a.0 a.1
    ])

module _ (n l : ℕ) (ms ps : List ℕ) (formed : IsWellFormed n ms ps) (layer : l < n) (others : (j : ℕ) → j ≢ l → get_or ms j 0 ≡ 0) where
  -- a mask that alone has bits may have fewer
  formed_alone : (v : ℕ) (xs : List ℕ) → length xs ≡ n → ((j : ℕ) → j ≢ l → get_or xs j 0 ≡ 0) → (0 < v → 0 < get_or ms l 0) → get_or xs l 0 ≡ v → IsWellFormed n xs ps
  formed_alone v xs long_xs others_xs was v-is = record {
    long = long_xs;
    aligned = λ a within some.
        let e : a ≡ l = here a some in
        let some_here : 0 < get_or xs l 0 = subst (λ x. 0 < get_or xs x 0) e some in
        subst (λ x. (get_or ps x 0 % 64 ≡ 0) × (get_or ps x 0 < 64 ^ (n - x))) (sym e) (formed.aligned l layer (was (rw v-is at some_here)));
    nested = λ a m lower within some other. absurd (let e : a ≡ l = here a some in let f : m ≡ l = here m other in omega arith);
    before = λ a m x lower within some small stands. absurd (
        let e : a ≡ l = here a some in
        let none : get_or xs m 0 ≡ 0 = others_xs m (omega arith) in
        let z : bit_at (get_or xs m 0) x ≡ 0 = ap (λ y. bit_at y x) none ∙ bit_at-zero x in
        omega (arith, z, stands));
  }
    where
      here : (a : ℕ) → 0 < get_or xs a 0 → a ≡ l
      here a some = elim (cases_lt a l) [
        | inl lower ↦ absurd (let z = others_xs a (omega arith) in omega (arith, z, some))
        | inr from ↦ elim (eq-or-lt_of_le from) [ inl e ↦ sym e | inr above ↦ absurd (let z = others_xs a (omega arith) in omega (arith, z, some)) ]
      ]

  others_set : (v : ℕ) (xs : List ℕ) → ((j : ℕ) → j ≢ l → get_or xs j 0 ≡ 0) → (j : ℕ) → j ≢ l → get_or (set xs l v) j 0 ≡ 0
  others_set v xs none j other = get_or-set_other xs l j v 0 other ∙ none j other

  pub formed_set : (v : ℕ) (xs : List ℕ) → length xs ≡ n → ((j : ℕ) → j ≢ l → get_or xs j 0 ≡ 0) → (0 < v → 0 < get_or ms l 0) → IsWellFormed n (set xs l v) ps
  formed_set v xs long none was = formed_alone v (set xs l v) (length-set xs l v ∙ long) (others_set v xs none) was (get_or-set_same xs l v 0 (omega arith))

  left_set : (v : ℕ) (xs : List ℕ) → length xs ≡ n → ((j : ℕ) → j ≢ l → get_or xs j 0 ≡ 0) → places_left 0 (set xs l v) ps ≡ places_in l (bits_from (get_or ps l 0) v)
  left_set v xs long none =
      let wide_set : length (set xs l v) ≡ n = length-set xs l v ∙ long in
      left-alone l l 0 (set xs l v) ps (omega arith) (omega arith) (others_set v xs none)
      ∙ ap (λ x. places_in l (bits_from (get_or ps l 0) x)) (get_or-set_same xs l v 0 (omega arith))

  -- the one mask that has bits is cut at its halving bit
  pub halved : (b lo : ℕ) (xs : List ℕ) → length xs ≡ n → ((j : ℕ) → j ≢ l → get_or xs j 0 ≡ 0) → get_or ms l 0 < 2 ^ 64 → 1 < count_ones (get_or ms l 0) → IsHalvingBit (get_or ms l 0) b → lo ≡ 2 ^ b - 1
      → AreCut (places_left 0 ms ps) (places_left 0 (set ms l (bit_and (get_or ms l 0) lo)) ps) (places_left 0 (set xs l (bit_and (get_or ms l 0) (18446744073709551615 - lo))) ps)
  halved b lo xs long none fits two halves lo-is =
      let m : ℕ = get_or ms l 0 in
      let wide_ms = formed.long in
      let low : ℕ = bit_and m lo in
      let high : ℕ = bit_and m (18446744073709551615 - lo) in
      let cuts : CutsAt m b low high = rw lo-is (cuts_at m b halves.0) in
      rw (left-alone l l 0 ms ps (omega arith) (omega arith) others, left_set low ms wide_ms others, left_set high xs long none)
      (are_cut (get_or ps l 0) m b low high cuts l fits (let less = and_le_l m lo in omega (arith, less, fits)) (let less = and_le_l m (18446744073709551615 - lo) in omega (arith, less, fits)) two halves)
