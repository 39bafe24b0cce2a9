-- Members of a container by the bits of its words.
use Rattle.std.proofs.Common.{◌≡◌, ℕ, ◌+◌, ◌-◌, ◌*◌, ◌/◌, ◌%◌, ◌^◌, ◌<◌, ◌≤◌, ◌==◌, true, false, List, get_or, length, sym, ap, ◌∙◌, arith, inl, inr, w64}
use Rattle.std.specs.Int.{bit_at, bit_not}
use Rattle.std.specs.Int.RustNames.{count_ones}
use Rattle.std.proofs.lemmas.Bool.{cases_lt, both_ways}
use Rattle.std.proofs.lemmas.List.{get_or_past}
use Rattle.std.proofs.lemmas.Nat.Bits.{bit_at-zero, bit_at-lt, bit_at_not}
use Rattle.hibitset_base.proofs.OneCountLemmas.{some_ones}
use Rattle.hibitset.specs.WordBits.{stands_in}
use Rattle.hibitset_roaring.specs.Words.{ones_under}
use Rattle.hibitset_roaring.proofs.WordLemmas.{ones_more, ones_mono}

module _ (words : List ℕ) (key : ℕ) where
  -- the test of a number is that of a bit
  pub by_bit : (slot b v : ℕ) → v ≡ 64 * slot + b → b < 64 → stands_in words (65536 * key + v) ≡ (bit_at (get_or words (1024 * key + slot) 0) b == 1)
  by_bit slot b v is small =
      let p : (65536 * key + v) / 64 ≡ 1024 * key + slot = omega (arith, is, small) in
      let r : (65536 * key + v) % 64 ≡ b = omega (arith, is, small) in
      ap (λ q. bit_at (get_or words q 0) ((65536 * key + v) % 64) == 1) p ∙ ap (λ x. bit_at (get_or words (1024 * key + slot) 0) x == 1) r

  module _ (slot b v word : ℕ) (at : v ≡ 64 * slot + b) (small : b < 64) (is : word ≡ get_or words (1024 * key + slot) 0) where
    pub bit_on : bit_at word b ≡ 1 → stands_in words (65536 * key + v) ≡ true
    bit_on on = by_bit slot b v at small ∙ (ap (λ w. bit_at w b == 1) (sym is) ∙ ap (λ x. x == 1) on)

    pub bit_off : bit_at word b ≡ 0 → stands_in words (65536 * key + v) ≡ false
    bit_off off = by_bit slot b v at small ∙ (ap (λ w. bit_at w b == 1) (sym is) ∙ ap (λ x. x == 1) off)

  -- zero words
  pub slots_gap : (m n v : ℕ) → ((q : ℕ) → m ≤ q → q < n → get_or words (1024 * key + q) 0 ≡ 0) → 64 * m ≤ v → v < 64 * n → stands_in words (65536 * key + v) ≡ false
  slots_gap m n v none from below =
      let at : v ≡ 64 * (v / 64) + v % 64 = omega arith in
      bit_off (v / 64) (v % 64) v 0 at (omega arith) (sym (none (v / 64) (omega (arith, from)) (omega (arith, below)))) (bit_at-zero (v % 64))

  -- numbers of one word
  module _ (number end word : ℕ) (most : end ≤ 64) (is : word ≡ get_or words (1024 * key + number / 64) 0) where
    pub word_gap : ((b : ℕ) → number % 64 ≤ b → b < end → bit_at word b ≡ 0) → (v : ℕ) → number ≤ v → v < 64 * (number / 64) + end → stands_in words (65536 * key + v) ≡ false
    word_gap clear v from below =
        let at : v ≡ 64 * (number / 64) + (v - 64 * (number / 64)) = omega (arith, from) in
        let low : number % 64 ≤ v - 64 * (number / 64) = omega (arith, from) in
        let high : v - 64 * (number / 64) < end = omega (arith, at, below) in
        bit_off (number / 64) (v - 64 * (number / 64)) v word at (omega (arith, high, most)) is (clear (v - 64 * (number / 64)) low high)

    pub word_run : ((b : ℕ) → number % 64 ≤ b → b < end → bit_at word b ≡ 1) → (v : ℕ) → number ≤ v → v < 64 * (number / 64) + end → stands_in words (65536 * key + v) ≡ true
    word_run set v from below =
        let at : v ≡ 64 * (number / 64) + (v - 64 * (number / 64)) = omega (arith, from) in
        let low : number % 64 ≤ v - 64 * (number / 64) = omega (arith, from) in
        let high : v - 64 * (number / 64) < end = omega (arith, at, below) in
        bit_on (number / 64) (v - 64 * (number / 64)) v word at (omega (arith, high, most)) is (set (v - 64 * (number / 64)) low high)

-- a bit of the word with all bits turned
module _ (word b : ℕ) (fits : word < 2 ^ 64) (small : b < 64) where
  pub turned_off : bit_at (bit_not w64 word) b ≡ 0 → bit_at word b ≡ 1
  turned_off off =
      let e : 1 - bit_at word b ≡ 0 = sym (bit_at_not w64 word b fits small) ∙ off in
      let l = bit_at-lt word b in
      omega (arith, e, l)

  pub turned_on : bit_at (bit_not w64 word) b ≡ 1 → bit_at word b ≡ 0
  turned_on on =
      let e : 1 - bit_at word b ≡ 1 = sym (bit_at_not w64 word b fits small) ∙ on in
      let l = bit_at-lt word b in
      omega (arith, e, l)

-- ---- words by their members

-- a member's key has ones
pub some_under : (words : List ℕ) (i : ℕ) → stands_in words i ≡ true → 0 < ones_under words (i / 65536)
some_under words i on =
    let base : ℕ = 1024 * (i / 65536) in
    let q : ℕ = i / 64 % 1024 in
    let p : base + q ≡ i / 64 = omega arith in
    let more = ones_more words base q in
    let most = ones_mono words base (q + 1) 1024 (omega arith) in
    let word : 0 < get_or words (i / 64) 0 = elim (cases_lt 0 (get_or words (i / 64) 0)) [
      | inl some ↦ some
      | inr none ↦ absurd (let z : get_or words (i / 64) 0 ≡ 0 = omega (arith, none) in both_ways (stands_in words i) (ap (λ x. bit_at x (i % 64) == 1) z ∙ ap (λ x. x == 1) (bit_at-zero (i % 64))) on)
    ] in
    let ones = some_ones (get_or words (i / 64) 0) word in
    let here : count_ones (get_or words (base + q) 0) ≡ count_ones (get_or words (i / 64) 0) = ap (λ r. count_ones (get_or words r 0)) p in
    omega (arith, more, most, ones, here)

-- a member's word is there
pub word_there : (words : List ℕ) (i : ℕ) → stands_in words i ≡ true → i / 64 < length words
word_there words i on = elim (cases_lt (i / 64) (length words)) [
  | inl there ↦ there
  | inr past ↦ absurd (let z = get_or_past words (i / 64) 0 past in both_ways (stands_in words i) (ap (λ x. bit_at x (i % 64) == 1) z ∙ ap (λ x. x == 1) (bit_at-zero (i % 64))) on)
]
