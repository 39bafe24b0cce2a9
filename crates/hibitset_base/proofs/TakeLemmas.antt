-- A walk takes its first bit.
use Rattle.std.proofs.Common.{◌≡◌, ◌≢◌, ℕ, suc, ◌+◌, ◌-◌, ◌*◌, ◌/◌, ◌%◌, ◌^◌, ◌<◌, ◌≤◌, List, length, get_or, sym, ◌∙◌, ap, subst, arith, ◌⊎◌, inl, inr}
use Rattle.std.specs.Int.{bit_at}
use Rattle.std.specs.Int.RustNames.{count_ones}
use Rattle.std.proofs.lemmas.Nat.Bits.{bit_at-lt, bit_at-zero, same_from_bits_below}
use Rattle.std.proofs.Math.ListN.{set}
use Rattle.std.proofs.Math.Nat.{pow-succ', eq-or-lt_of_le, div-div-eq-div-mul}
use Rattle.std.proofs.lemmas.Bool.{cases_lt}
use Rattle.std.proofs.lemmas.List.{get_or-set_same, get_or-set_other, length-set, get_or_past}
use Rattle.hibitset_base.specs.Places.{IsWellFormed, ComesBefore}
use Rattle.hibitset_base.proofs.MaskLemmas.{TakesFirst}
use Rattle.hibitset_base.proofs.OnesFromLemmas.{two_ones}

-- what the bits taken and left tell
pub bit_left : (m t r b : ℕ) → TakesFirst m t r → b < 64 → bit_at r b ≡ 1 → (t < b) × (bit_at m b ≡ 1)
bit_left m t r b h small stands =
    elim (cases_lt t b) [
      | inl later ↦ (later, sym (h.same b small (inr later)) ∙ stands)
      | inr sooner ↦ elim (eq-or-lt_of_le sooner) [
        | inl e ↦ absurd (let g : bit_at r b ≡ 0 = rw e h.gone in omega (arith, g, stands))
        | inr lt ↦ absurd (let g : bit_at r b ≡ 0 = h.same b small (inl lt) ∙ h.first b lt in omega (arith, g, stands))
      ]
    ]

-- a mask with at most one bit has none left
pub none_left : (m t r : ℕ) → TakesFirst m t r → r < 2 ^ 64 → count_ones m ≤ 1 → r ≡ 0
none_left m t r h fits few =
    same_from_bits_below 64 r 0 fits (omega arith) (λ i small. elim (cases_lt 0 (bit_at r i)) [
      | inl some ↦ absurd (
          let least = bit_at-lt r i in
          let left = bit_left m t r i h small (omega arith) in
          let two = two_ones m t i left.0 h.stood left.1 in
          omega (arith, two, few))
      | inr none ↦ (let z = bit_at-zero i in omega arith)
    ])

-- A walk without the bits of one layer.
module _ (n l : ℕ) (ms ps : List ℕ) (formed : IsWellFormed n ms ps) where
  bits_without : (m : ℕ) → (get_or (set ms l 0) m 0 ≡ 0) ⊎ (get_or (set ms l 0) m 0 ≡ get_or ms m 0)
  bits_without m = elim (cases_lt m l) [
    | inl lower ↦ inr (get_or-set_other ms l m 0 0 (omega arith))
    | inr from ↦ elim (eq-or-lt_of_le from) [
      | inl e ↦ elim (cases_lt l (length ms)) [
        | inl inside ↦ inl (subst (λ x. get_or (set ms l 0) x 0 ≡ 0) e (get_or-set_same ms l 0 0 inside))
        | inr past ↦ inl (subst (λ x. get_or (set ms l 0) x 0 ≡ 0) e (get_or_past (set ms l 0) l 0 (let k = length-set ms l 0 in omega arith)))
      ]
      | inr above ↦ inr (get_or-set_other ms l m 0 0 (omega arith))
    ]
  ]

  was_left : (m : ℕ) → 0 < get_or (set ms l 0) m 0 → 0 < get_or ms m 0
  was_left m some = elim (bits_without m) [ inl none ↦ absurd (omega arith) | inr same ↦ omega arith ]

  was_bit : (m b : ℕ) → bit_at (get_or (set ms l 0) m 0) b ≡ 1 → bit_at (get_or ms m 0) b ≡ 1
  was_bit m b stands = elim (bits_without m) [
    | inl none ↦ absurd (let z = bit_at-zero b in let e = ap (λ x. bit_at x b) none in omega arith)
    | inr same ↦ sym (ap (λ x. bit_at x b) same) ∙ stands
  ]

  pub formed_without : IsWellFormed n (set ms l 0) ps
  formed_without = record {
    long = length-set ms l 0 ∙ formed.long;
    aligned = λ a within some. formed.aligned a within (was_left a some);
    nested = λ a m lower within some other. formed.nested a m lower within (was_left a some) (was_left m other);
    before = λ a m b lower within some small stands. formed.before a m b lower within (was_left a some) small (was_bit m b stands);
  }

module _ (n l : ℕ) (ms ps : List ℕ) (t r q : ℕ) (formed : IsWellFormed n ms ps) (long : length ms ≡ n) (layer : l < n)
    (below : (m : ℕ) → m < l → get_or ms m 0 ≡ 0) (takes : TakesFirst (get_or ms l 0) t r) (q-is : q ≡ get_or ps l 0 + t) where
  here : get_or (set ms l r) l 0 ≡ r
  here = get_or-set_same ms l r 0 (omega arith)

  there : (m : ℕ) → m ≢ l → get_or (set ms l r) m 0 ≡ get_or ms m 0
  there m other = get_or-set_other ms l m r 0 other

  -- a bit that is left was there before
  left_was : (m : ℕ) → 0 < get_or (set ms l r) m 0 → 0 < get_or ms m 0
  left_was m some = elim (cases_lt m l) [
    | inl a ↦ let e = there m (omega arith) in omega (arith, e, some)
    | inr b ↦ elim (eq-or-lt_of_le b) [
      | inl e ↦ let s = takes.less in let f : 0 < get_or ms l 0 = omega arith in subst (λ x. 0 < get_or ms x 0) e f
      | inr c ↦ let e = there m (omega arith) in omega (arith, e, some)
    ]
  ]

  bit_was : (m b : ℕ) → b < 64 → bit_at (get_or (set ms l r) m 0) b ≡ 1 → bit_at (get_or ms m 0) b ≡ 1
  bit_was m b small stands = elim (cases_lt m l) [
    | inl a ↦ let e = there m (omega arith) in rw e at stands
    | inr c ↦ elim (eq-or-lt_of_le c) [
      | inl e ↦ let s : bit_at (get_or (set ms l r) l 0) b ≡ 1 = subst (λ x. bit_at (get_or (set ms l r) x 0) b ≡ 1) (sym e) stands in
          let s2 : bit_at r b ≡ 1 = rw here at s in
          subst (λ x. bit_at (get_or ms x 0) b ≡ 1) e ((bit_left _ t r b takes small s2).1)
      | inr d ↦ let e = there m (omega arith) in rw e at stands
    ]
  ]

  pub formed_after : IsWellFormed n (set ms l r) ps
  formed_after = record {
    long = length-set ms l r ∙ long;
    aligned = λ a within some. formed.aligned a within (left_was a some);
    nested = λ a m lower within some other. formed.nested a m lower within (left_was a some) (left_was m other);
    before = λ a m b lower within some small stands. formed.before a m b lower within (left_was a some) small (bit_was m b small stands);
  }

  some_here : 0 < get_or ms l 0
  some_here = let s = takes.less in omega arith

  -- the position and its prefix lie in the same word, and in the same range above
  same_above : (k : ℕ) → q / 64 ^ suc k ≡ get_or ps l 0 / 64 ^ suc k
  same_above k =
      let a = formed.aligned l layer some_here in
      let s = takes.small in
      let e : 64 ^ suc k ≡ 64 * 64 ^ k = pow-succ' 64 k in
      let word : q / 64 ≡ get_or ps l 0 / 64 = omega arith in
      rw e (sym (div-div-eq-div-mul q 64 (64 ^ k)) ∙ (ap (λ x. x / 64 ^ k) word ∙ div-div-eq-div-mul (get_or ps l 0) 64 (64 ^ k)))

  position_within : q < 64 ^ (n - l)
  position_within =
      let a = formed.aligned l layer some_here in
      let s = takes.small in
      let d : ℕ = n - l - 1 in
      let d-is : n - l ≡ suc d = omega arith in
      let e : 64 ^ suc d ≡ 64 * 64 ^ d = pow-succ' 64 d in
      let b : get_or ps l 0 < 64 ^ (n - l) = a.1 in
      let b2 = rw (d-is, e) at b in
      let c : get_or ps l 0 % 64 ≡ 0 = a.0 in
      rw (d-is, e) (omega arith)

  nested_here : q / 64 ^ (l - l) / 64 * 64 ≡ get_or ps l 0
  nested_here =
      let a = formed.aligned l layer some_here in
      let s = takes.small in
      let z : l - l ≡ 0 = omega arith in
      let one : q / 1 ≡ q = omega arith in
      let c : get_or ps l 0 % 64 ≡ 0 = a.0 in
      rw (z, one) (omega arith)

  before_here : (b : ℕ) → b < 64 → bit_at (get_or (set ms l r) l 0) b ≡ 1 → q / 64 ^ (l - l) < get_or ps l 0 + b
  before_here b small stands =
      let z : l - l ≡ 0 = omega arith in
      let one : q / 1 ≡ q = omega arith in
      let s2 : bit_at r b ≡ 1 = rw here at stands in
      let later : t < b = (bit_left _ t r b takes small s2).0 in
      rw (z, one) (omega arith)

  nested_above : (m : ℕ) → l < m → m < n → 0 < get_or (set ms l r) m 0 → q / 64 ^ (m - l) / 64 * 64 ≡ get_or ps m 0
  nested_above m above within some =
      let k : ℕ = m - l - 1 in
      let k-is : m - l ≡ suc k = omega arith in
      let h : get_or ps l 0 / 64 ^ (m - l) / 64 * 64 ≡ get_or ps m 0 = formed.nested l m above within some_here (left_was m some) in
      let h2 = rw k-is at h in
      rw (k-is, same_above k) h2

  before_above : (m b : ℕ) → l < m → m < n → b < 64 → bit_at (get_or (set ms l r) m 0) b ≡ 1 → q / 64 ^ (m - l) < get_or ps m 0 + b
  before_above m b above within small stands =
      let k : ℕ = m - l - 1 in
      let k-is : m - l ≡ suc k = omega arith in
      let h : get_or ps l 0 / 64 ^ (m - l) < get_or ps m 0 + b = formed.before l m b above within some_here small (bit_was m b small stands) in
      let h2 = rw k-is at h in
      rw (k-is, same_above k) h2

  pub before_rest : ComesBefore n (set ms l r) ps l q
  before_rest = record {
    within = position_within;
    below = λ m lower. there m (omega arith) ∙ below m lower;
    nested = λ m from within some. elim (eq-or-lt_of_le from) [
      | inl e ↦ subst (λ x. q / 64 ^ (x - l) / 64 * 64 ≡ get_or ps x 0) e nested_here
      | inr above ↦ nested_above m above within some
    ];
    before = λ m b from within small stands. elim (eq-or-lt_of_le from) [
      | inl e ↦ subst (λ x. q / 64 ^ (x - l) < get_or ps x 0 + b) e (before_here b small (subst (λ x. bit_at (get_or (set ms l r) x 0) b ≡ 1) (sym e) stands))
      | inr above ↦ before_above m b above within small stands
    ];
  }
