-- A walk goes on from the bits of a word.
use Rattle.std.proofs.Common.{◌≡◌, ◌≢◌, ℕ, suc, ◌+◌, ◌-◌, ◌*◌, ◌/◌, ◌%◌, ◌^◌, ◌<◌, ◌≤◌, List, length, get_or, sym, ◌∙◌, ap, subst, arith, ◌⊎◌, inl, inr, lit<}
use Rattle.std.specs.Int.{bit_at}
use Rattle.std.proofs.Math.ListN.{set}
use Rattle.std.proofs.Math.Nat.{pow-suc, pow-succ', pow-le-pow_right, eq-or-lt_of_le, div-div-eq-div-mul}
use Rattle.std.proofs.lemmas.Bool.{cases_lt}
use Rattle.std.proofs.lemmas.List.{get_or-set_same, get_or-set_other, length-set}
use Rattle.hibitset_base.specs.Places.{IsWellFormed, ComesBefore}

-- a position's shift keeps all its bits
pub shifted : (n l q : ℕ) → 64 ^ n ≤ 2 ^ 32 → l + 1 < n → q < 64 ^ (n - (l + 1)) → q * 64 % 4294967296 ≡ 64 * q
shifted n l q fits layer within =
    let one_more : n - l ≡ suc (n - (l + 1)) = omega arith in
    let up : 64 ^ (n - l) ≡ 64 ^ (n - (l + 1)) * 64 = ap (λ x. 64 ^ x) one_more ∙ pow-suc 64 (n - (l + 1)) in
    let most : 64 ^ (n - l) ≤ 64 ^ n = (let b : n - l ≤ n = omega arith in pow-le-pow_right {n = 64} (lit< tt) b) in
    omega (arith, up, most, fits, within)

module _ (n l : ℕ) (ms ps : List ℕ) (v q : ℕ) (formed : IsWellFormed n ms ps) (long : length ms ≡ n) (wide : length ps ≡ n) (layer : l + 1 < n)
    (next : ComesBefore n ms ps (l + 1) q) where
  masks : List ℕ
  masks = set ms l v

  prefixes : List ℕ
  prefixes = set ps l (64 * q)

  mask_here : get_or masks l 0 ≡ v
  unfolding masks
  mask_here = get_or-set_same ms l v 0 (omega arith)

  mask_there : (m : ℕ) → m ≢ l → get_or masks m 0 ≡ get_or ms m 0
  unfolding masks
  mask_there m other = get_or-set_other ms l m v 0 other

  prefix_here : get_or prefixes l 0 ≡ 64 * q
  unfolding prefixes
  prefix_here = get_or-set_same ps l (64 * q) 0 (omega arith)

  prefix_there : (m : ℕ) → m ≢ l → get_or prefixes m 0 ≡ get_or ps m 0
  unfolding prefixes
  prefix_there m other = get_or-set_other ps l m (64 * q) 0 other

  -- where a bit is left: in the word, or above it
  left_in : (m : ℕ) → 0 < get_or masks m 0 → (m ≡ l) ⊎ (l < m)
  left_in m some = elim (cases_lt m l) [
    | inl a ↦ absurd (let e = mask_there m (omega arith) in let f = next.below m (omega arith) in omega (arith, e, f, some))
    | inr b ↦ elim (eq-or-lt_of_le b) [ inl e ↦ inl (sym e) | inr c ↦ inr c ]
  ]

  quotient : (m : ℕ) → l < m → 64 * q / 64 ^ (m - l) ≡ q / 64 ^ (m - (l + 1))
  quotient m above =
      let k : ℕ = m - (l + 1) in
      let k-is : m - l ≡ suc k = omega arith in
      let e : 64 ^ suc k ≡ 64 * 64 ^ k = pow-succ' 64 k in
      let h : 64 * q / 64 ≡ q = omega arith in
      rw (k-is, e) (sym (div-div-eq-div-mul (64 * q) 64 (64 ^ k)) ∙ ap (λ x. x / 64 ^ k) h)

  aligned_here : (get_or prefixes l 0 % 64 ≡ 0) × (get_or prefixes l 0 < 64 ^ (n - l))
  aligned_here =
      let d : ℕ = n - (l + 1) in
      let d-is : n - l ≡ suc d = omega arith in
      let e : 64 ^ suc d ≡ 64 * 64 ^ d = pow-succ' 64 d in
      let w : q < 64 ^ d = next.within in
      rw (prefix_here, d-is, e) (omega arith, omega arith)

  aligned_after : (a : ℕ) → a < n → 0 < get_or masks a 0 → (get_or prefixes a 0 % 64 ≡ 0) × (get_or prefixes a 0 < 64 ^ (n - a))
  aligned_after a within some = elim (left_in a some) [
    | inl e ↦ subst (λ x. (get_or prefixes x 0 % 64 ≡ 0) × (get_or prefixes x 0 < 64 ^ (n - x))) (sym e) aligned_here
    | inr above ↦
        let m-is = mask_there a (omega arith) in
        let some2 = rw m-is at some in
        rw (prefix_there a (omega arith)) (formed.aligned a within some2)
  ]

  nested_after : (a m : ℕ) → a < m → m < n → 0 < get_or masks a 0 → 0 < get_or masks m 0 → get_or prefixes a 0 / 64 ^ (m - a) / 64 * 64 ≡ get_or prefixes m 0
  nested_after a m lower within some other = elim (left_in a some) [
    | inl e ↦
        let m-is = mask_there m (omega arith) in
        let other2 = rw m-is at other in
        let h : q / 64 ^ (m - (l + 1)) / 64 * 64 ≡ get_or ps m 0 = next.nested m (omega arith) within other2 in
        rw (e, prefix_here, prefix_there m (omega arith), quotient m (omega arith)) h
    | inr above ↦
        let a-is = mask_there a (omega arith) in
        let some2 = rw a-is at some in
        let m-is = mask_there m (omega arith) in
        let other2 = rw m-is at other in
        rw (prefix_there a (omega arith), prefix_there m (omega arith)) (formed.nested a m lower within some2 other2)
  ]

  before_after : (a m b : ℕ) → a < m → m < n → 0 < get_or masks a 0 → b < 64 → bit_at (get_or masks m 0) b ≡ 1 → get_or prefixes a 0 / 64 ^ (m - a) < get_or prefixes m 0 + b
  before_after a m b lower within some small stands = elim (left_in a some) [
    | inl e ↦
        let m-is = mask_there m (omega arith) in
        let stands2 = rw m-is at stands in
        let h : q / 64 ^ (m - (l + 1)) < get_or ps m 0 + b = next.before m b (omega arith) within small stands2 in
        rw (e, prefix_here, prefix_there m (omega arith), quotient m (omega arith)) h
    | inr above ↦
        let a-is = mask_there a (omega arith) in
        let some2 = rw a-is at some in
        let m-is = mask_there m (omega arith) in
        let stands2 = rw m-is at stands in
        rw (prefix_there a (omega arith), prefix_there m (omega arith)) (formed.before a m b lower within some2 small stands2)
  ]

  pub formed_after : IsWellFormed n (set ms l v) (set ps l (64 * q))
  unfolding masks prefixes
  formed_after = record { long = length-set ms l v ∙ long; aligned = aligned_after; nested = nested_after; before = before_after }
