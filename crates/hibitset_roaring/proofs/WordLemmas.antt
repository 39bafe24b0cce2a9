-- Bits of words written as numbers.
use Rattle.std.proofs.Common.{◌≡◌, ◌≢◌, ℕ, zero, suc, ◌+◌, ◌-◌, ◌*◌, ◌/◌, ◌%◌, ◌<◌, ◌≤◌, ◌==◌, ◌||◌, ◌&&◌, true, false, List, get_or, refl, sym, ap, ◌∙◌, add-one, arith, inl, inr}
use Rattle.std.specs.Prelude.{nat_le, nat_lt}
use Rattle.std.specs.Int.{bit_at}
use Rattle.std.specs.Int.RustNames.{count_ones}
use Rattle.std.proofs.lemmas.Bool.{cases_lt, cases_eq, le-leb, lt-leb, lt-ltb, le-ltb}
use Rattle.std.proofs.Math.Bool.{and-false, or-false}
use Rattle.hibitset_base.specs.Decisions.{eq_same, eq_other}
use Rattle.hibitset.specs.WordBits.{stands_in}
use Rattle.hibitset_roaring.specs.Words.{in_word, ones_from}

-- a word's numbers are the one that was taken and the rest
pub taken_word : (first bit old new v : ℕ) → bit < 64 → bit_at old bit ≡ 1 → ((b : ℕ) → b < 64 → b ≢ bit → bit_at new b ≡ bit_at old b) → in_word first old v ≡ ((first + bit == v) || in_word first new v)
taken_word first bit old new v small stood others = elim (cases_lt v first) [
  | inl below ↦
      let a : nat_le first v ≡ false = lt-leb first v below in
      let t : (first + bit == v) ≡ false = eq_other (first + bit) v (λ e. absurd (omega (arith, e, below))) in
      rw (a, t) refl
  | inr above ↦ elim (cases_lt v (first + 64)) [
    | inl within ↦ elim (cases_eq (v - first) bit) [
      | inl e ↦
          let a : nat_le first v ≡ true = le-leb first v above in
          let b : nat_lt v (first + 64) ≡ true = lt-ltb v (first + 64) within in
          let s : (bit_at old (v - first) == 1) ≡ true = ap (λ x. bit_at old x == 1) e ∙ eq_same (bit_at old bit) 1 stood in
          let t : (first + bit == v) ≡ true = eq_same (first + bit) v (omega (arith, e, above)) in
          ap (λ x. x && (nat_lt v (first + 64) && (bit_at old (v - first) == 1))) a ∙ (ap (λ x. x && (bit_at old (v - first) == 1)) b ∙ (s ∙ sym (ap (λ x. x || in_word first new v) t)))
      | inr other ↦
          let t : (first + bit == v) ≡ false = eq_other (first + bit) v (λ e. other (omega (arith, e))) in
          let s : bit_at new (v - first) ≡ bit_at old (v - first) = others (v - first) (omega (arith, within, above)) other in
          ap (λ x. nat_le first v && (nat_lt v (first + 64) && (x == 1))) (sym s) ∙ sym (ap (λ x. x || in_word first new v) t)
    ]
    | inr past ↦
        let b : nat_lt v (first + 64) ≡ false = le-ltb v (first + 64) past in
        let t : (first + bit == v) ≡ false = eq_other (first + bit) v (λ e. absurd (omega (arith, e, past, small))) in
        ap (λ x. nat_le first v && (x && (bit_at old (v - first) == 1))) b ∙ (and-false (nat_le first v) ∙ sym (ap (λ x. x || in_word first new v) t ∙ (ap (λ x. nat_le first v && (x && (bit_at new (v - first) == 1))) b ∙ and-false (nat_le first v))))
  ]
]

pub ones_first : (words : List ℕ) (base : ℕ) → ones_from words base 0 ≡ 0
unfolding ones_from
ones_first words base = refl

pub ones_more : (words : List ℕ) (base n : ℕ) → ones_from words base (n + 1) ≡ ones_from words base n + count_ones (get_or words (base + n) 0)
unfolding ones_from
ones_more words base n = rw add-one refl

pub ones_mono : (words : List ℕ) (base m n : ℕ) → m ≤ n → ones_from words base m ≤ ones_from words base n
unfolding ones_from
ones_mono words base m zero below = let e : m ≡ 0 = omega (arith, below) in rw e (omega arith)
ones_mono words base m (suc n) below = elim (cases_lt n m) [
  | inl above ↦ (let e : m ≡ suc n = omega (arith, above, below) in rw e (omega arith))
  | inr upto ↦ (let h = ones_mono words base m n upto in omega (arith, h))
]

-- the numbers of one word more
pub word_more : (words : List ℕ) (key j v : ℕ) → v < 65536 → ((nat_lt v (64 * j) && stands_in words (65536 * key + v)) || in_word (64 * j) (get_or words (1024 * key + j) 0) v) ≡ (nat_lt v (64 * (j + 1)) && stands_in words (65536 * key + v))
word_more words key j v small = elim (cases_lt v (64 * j)) [
  | inl below ↦
      let a : nat_lt v (64 * j) ≡ true = lt-ltb v (64 * j) below in
      let b : nat_lt v (64 * (j + 1)) ≡ true = lt-ltb v (64 * (j + 1)) (omega (arith, below)) in
      let d : nat_le (64 * j) v ≡ false = lt-leb (64 * j) v below in
      ap (λ x. (x && stands_in words (65536 * key + v)) || in_word (64 * j) (get_or words (1024 * key + j) 0) v) a
      ∙ (ap (λ x. stands_in words (65536 * key + v) || (x && (nat_lt v (64 * j + 64) && (bit_at (get_or words (1024 * key + j) 0) (v - 64 * j) == 1)))) d ∙ (or-false (stands_in words (65536 * key + v)) ∙ sym (ap (λ x. x && stands_in words (65536 * key + v)) b)))
  | inr above ↦
      let a : nat_lt v (64 * j) ≡ false = le-ltb v (64 * j) above in
      let d : nat_le (64 * j) v ≡ true = le-leb (64 * j) v above in
      ap (λ x. (x && stands_in words (65536 * key + v)) || in_word (64 * j) (get_or words (1024 * key + j) 0) v) a
      ∙ (ap (λ x. x && (nat_lt v (64 * j + 64) && (bit_at (get_or words (1024 * key + j) 0) (v - 64 * j) == 1))) d
      ∙ elim (cases_lt v (64 * j + 64)) [
        | inl within ↦
            let b : nat_lt v (64 * j + 64) ≡ true = lt-ltb v (64 * j + 64) within in
            let e : nat_lt v (64 * (j + 1)) ≡ true = lt-ltb v (64 * (j + 1)) (omega (arith, within)) in
            let p : (65536 * key + v) / 64 ≡ 1024 * key + j = omega (arith, above, within) in
            let r : (65536 * key + v) % 64 ≡ v - 64 * j = omega (arith, above, within) in
            ap (λ x. x && (bit_at (get_or words (1024 * key + j) 0) (v - 64 * j) == 1)) b ∙ (ap (λ q. bit_at (get_or words q 0) (v - 64 * j) == 1) (sym p) ∙ (ap (λ q. bit_at (get_or words ((65536 * key + v) / 64) 0) q == 1) (sym r) ∙ sym (ap (λ x. x && stands_in words (65536 * key + v)) e)))
        | inr past ↦
            let b : nat_lt v (64 * j + 64) ≡ false = le-ltb v (64 * j + 64) past in
            let e : nat_lt v (64 * (j + 1)) ≡ false = le-ltb v (64 * (j + 1)) (omega (arith, past)) in
            ap (λ x. x && (bit_at (get_or words (1024 * key + j) 0) (v - 64 * j) == 1)) b ∙ sym (ap (λ x. x && stands_in words (65536 * key + v)) e)
      ])
]
