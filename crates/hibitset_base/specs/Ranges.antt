-- A range of numbers as a set, a word at a time.
use Rattle.std.specs.Prelude.{◌≡◌, ℕ, ◌+◌, ◌-◌, ◌*◌, ◌/◌, ◌%◌, ◌^◌, ◌<◌, ◌≤◌, Bool, true, false, ◌&&◌, nat_le, nat_lt, min}
use Rattle.std.specs.Int.{bit_at}
use Rattle.std.proofs.Common.{suc, arith, ap, ap₂, sym, ◌∙◌, inl, inr, lit<}
use Rattle.std.proofs.Math.Nat.{pow-suc, pow-le-pow_right, one-le-pow, div-div-eq-div-mul, le-div_iff_mul-le}
use Rattle.std.proofs.lemmas.Bool.{cases_lt}
use Rattle.std.proofs.lemmas.Bool.Decides.{nat_tests}
use Rattle.std.proofs.lemmas.Nat.Bits.{bit_at_mask_below, bit_at_mask_inside, bit_at_mask_above}
use Rattle.hibitset_base.specs.Sets.{IsLawful, bit_of}

-- the number lies from `start` on and before `end`
abbrev pub in_range : ℕ → ℕ → ℕ → Bool
in_range start end i = nat_le start i && nat_lt i end

-- the word at a position of a layer, with the bits from one position on before another
abbrev pub run_word : ℕ → ℕ → ℕ → ℕ
run_word from to p = 2 ^ min (to - 64 * p) 64 - 2 ^ min (from - 64 * p) 64

-- the words of a range: the bits of its numbers, and above them those over them
abbrev pub range_word : ℕ → ℕ → ℕ → ℕ → ℕ
range_word start end l p = run_word (start / 64 ^ l) ((end + (64 ^ l - 1)) / 64 ^ l) p

pub range_low : (a b i : ℕ) → i < a → in_range a b i ≡ false
range_low a b i low = grind (arith, nat_tests)

pub range_high : (a b i : ℕ) → b ≤ i → in_range a b i ≡ false
range_high a b i high = grind (arith, nat_tests)

pub range_inside : (a b i : ℕ) → a ≤ i → i < b → in_range a b i ≡ true
range_inside a b i from below = grind (arith, nat_tests)

-- the bits of such a word
pub run_bits : (from to p b : ℕ) → b < 64 → bit_at (run_word from to p) b ≡ bit_of (in_range from to (64 * p + b))
run_bits from to p b small = elim (cases_lt b (min (from - 64 * p) 64)) [
  | inl before ↦
      let low : 64 * p + b < from = omega (arith, before) in
      let out : in_range from to (64 * p + b) ≡ false = range_low from to (64 * p + b) low in
      rw out (bit_at_mask_below (min (from - 64 * p) 64) (min (to - 64 * p) 64) b before)
  | inr after ↦ elim (cases_lt b (min (to - 64 * p) 64)) [
    | inl inside ↦
        let low : from ≤ 64 * p + b = omega (arith, after, small) in
        let high : 64 * p + b < to = omega (arith, inside) in
        let yes : in_range from to (64 * p + b) ≡ true = range_inside from to (64 * p + b) low high in
        rw yes (bit_at_mask_inside (min (from - 64 * p) 64) (min (to - 64 * p) 64) b after inside)
    | inr past ↦
        let high : to ≤ 64 * p + b = omega (arith, past, small) in
        let out : in_range from to (64 * p + b) ≡ false = range_high from to (64 * p + b) high in
        rw out (bit_at_mask_above (min (from - 64 * p) 64) (min (to - 64 * p) 64) b past)
  ]
]

-- where one is not 0
pub run_order : (from to p : ℕ) → 0 < run_word from to p → (from < 64 * p + 64) × (64 * p < to) × (from < to)
run_order from to p some = elim (cases_lt (min (from - 64 * p) 64) (min (to - 64 * p) 64)) [
  | inl less ↦ (omega (arith, less), omega (arith, less), omega (arith, less))
  | inr more ↦ absurd (
      let h : 2 ^ min (to - 64 * p) 64 ≤ 2 ^ min (from - 64 * p) 64 = pow-le-pow_right {n = 2} (lit< tt) more in
      omega (arith, h, some))
]

-- the bit over a nonzero word
over_range : (start end l p : ℕ) → 0 < range_word start end l p → bit_at (range_word start end (l + 1) (p / 64)) (p % 64) ≡ 1
over_range start end l p some =
    let z : ℕ = 64 ^ l in
    let m : ℕ = 64 ^ (l + 1) in
    let size : m ≡ z * 64 = (let s : l + 1 ≡ suc l = omega arith in ap (λ k. 64 ^ k) s ∙ pow-suc 64 l) in
    let some_z : 0 < z = one-le-pow l 64 (lit< tt) in
    let some_m : 0 < m = one-le-pow (l + 1) 64 (lit< tt) in
    let order = run_order (start / z) ((end + (z - 1)) / z) p some in
    let up : start / m ≡ start / z / 64 = ap (λ k. start / k) size ∙ sym (div-div-eq-div-mul start z 64) in
    let from : start / m ≤ p = (let low = order.0 in omega (arith, up, low)) in
    let upto : 64 * p + 1 ≤ (end + (z - 1)) / z = (let high = order.1 in omega (arith, high)) in
    let reach : (64 * p + 1) * z ≤ end + (z - 1) = (le-div_iff_mul-le some_z).0 upto in
    let product : (p + 1) * m ≡ (p + 1) * (z * 64) = ap (λ y. (p + 1) * y) size in
    let room : (p + 1) * m ≤ end + (m - 1) = omega (arith, size, product, reach, some_z) in
    let to : p + 1 ≤ (end + (m - 1)) / m = (le-div_iff_mul-le some_m).1 room in
    let whole : 64 * (p / 64) + p % 64 ≡ p = omega arith in
    let inside : in_range (start / m) ((end + (m - 1)) / m) p ≡ true = range_inside (start / m) ((end + (m - 1)) / m) p from (omega (arith, to)) in
    run_bits (start / m) ((end + (m - 1)) / m) (p / 64) (p % 64) (omega arith) ∙ (ap (λ i. bit_of (in_range (start / m) ((end + (m - 1)) / m) i)) whole ∙ ap bit_of inside)

pub range_lawful : (n start end : ℕ) → IsLawful n (in_range start end) (range_word start end)
range_lawful n start end = record {
  members = λ p b within small.
      let first : start / 64 ^ 0 ≡ start = omega arith in
      let last : (end + (64 ^ 0 - 1)) / 64 ^ 0 ≡ end = omega arith in
      let e : range_word start end 0 p ≡ run_word start end p = ap₂ (λ a c. run_word a c p) first last in
      ap (λ x. bit_at x b) e ∙ run_bits start end p b small;
  summaries = λ l p below within some. over_range start end l p some;
}
