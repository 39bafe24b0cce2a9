-- Words between two slots that are 0.
use Rattle.std.proofs.Common.{◌≡◌, ◌≢◌, ℕ, Bool, zero, suc, ◌+◌, ◌*◌, ◌/◌, ◌%◌, ◌<◌, ◌≤◌, ◌==◌, ◌&&◌, List, get_or, sym, ap, ◌∙◌, arith, inl, inr}
use Rattle.std.specs.Prelude.{nat_lt, not}
use Rattle.std.specs.Int.{bit_at}
use Rattle.std.specs.Int.RustNames.{count_ones}
use Rattle.std.proofs.lemmas.Nat.{ones_le_self}
use Rattle.std.proofs.lemmas.Nat.Bits.{bit_at-zero}
use Rattle.std.proofs.lemmas.Bool.{cases_lt, lt-ltb, le-ltb}
use Rattle.std.proofs.lemmas.Bool.Decides.{nat_tests}
use Rattle.hibitset_base.specs.Decisions.{same_or_not}
use Rattle.hibitset_base.specs.Sets.{bit_of}
use Rattle.hibitset_base.proofs.MembershipLemmas.{bit_test}
use Rattle.hibitset.specs.WordBits.{stands_in}
use Rattle.hibitset_roaring.specs.Words.{ones_from, AreBlocks, AreSummaries}
use Rattle.hibitset_roaring.proofs.WordLemmas.{ones_more}

-- zero words have no ones
pub ones_skip : (words : List ℕ) (base m n : ℕ) → m ≤ n → ((q : ℕ) → m ≤ q → q < n → get_or words (base + q) 0 ≡ 0) → ones_from words base n ≡ ones_from words base m
ones_skip words base m zero order none = let e : m ≡ 0 = omega (arith, order) in ap (λ k. ones_from words base k) (sym e)
ones_skip words base m (suc n) order none = elim (cases_lt n m) [
  | inl above ↦ (let e : m ≡ suc n = omega (arith, above, order) in ap (λ k. ones_from words base k) (sym e))
  | inr upto ↦
      let e : n + 1 ≡ suc n = omega arith in
      let more = ones_more words base n in
      let few = ones_le_self 0 in
      let here : count_ones (get_or words (base + n) 0) ≡ count_ones 0 = ap count_ones (none n upto (omega arith)) in
      let rest = ones_skip words base m n upto (λ q from below. none q from (omega (arith, below))) in
      ap (λ k. ones_from words base k) (sym e) ∙ omega (arith, more, few, here, rest)
]

-- zero words have no members
pub slots_skip : (words : List ℕ) (key m n v : ℕ) → m ≤ n → v < 65536 → ((q : ℕ) → m ≤ q → q < n → get_or words (1024 * key + q) 0 ≡ 0) → (nat_lt v (64 * m) && stands_in words (65536 * key + v)) ≡ (nat_lt v (64 * n) && stands_in words (65536 * key + v))
slots_skip words key m n v order small none = elim (cases_lt v (64 * m)) [
  | inl below ↦ ap (λ t. t && stands_in words (65536 * key + v)) (lt-ltb v (64 * m) below ∙ sym (lt-ltb v (64 * n) (omega (arith, below, order))))
  | inr above ↦ ap (λ t. t && stands_in words (65536 * key + v)) (le-ltb v (64 * m) above) ∙ elim (cases_lt v (64 * n)) [
    | inl within ↦
        let p : (65536 * key + v) / 64 ≡ 1024 * key + v / 64 = omega arith in
        let z : get_or words ((65536 * key + v) / 64) 0 ≡ 0 = ap (λ q. get_or words q 0) p ∙ none (v / 64) (omega (arith, above)) (omega (arith, within)) in
        sym (ap (λ t. t && stands_in words (65536 * key + v)) (lt-ltb v (64 * n) within) ∙ (ap (λ x. bit_at x ((65536 * key + v) % 64) == 1) z ∙ ap (λ x. x == 1) (bit_at-zero ((65536 * key + v) % 64))))
    | inr past ↦ sym (ap (λ t. t && stands_in words (65536 * key + v)) (le-ltb v (64 * n) past))
  ]
]

-- a bit of the blocks that is clear
module _ (above : List ℕ) (key blocks : ℕ) (are : AreBlocks above key blocks) where
  pub block_clear : (b : ℕ) → b < 16 → bit_at blocks b ≡ 0 → get_or above (16 * key + b) 0 ≡ 0
  block_clear b small clear = let h = are.bits b (omega (arith, small)) in let w : ℕ = get_or above (16 * key + b) 0 in grind (arith, nat_tests)

  pub block_low : (b : ℕ) → b < 64 → bit_at blocks b ≡ 1 → b < 16
  block_low b small on = let h = are.bits b small in grind (arith, nat_tests)

-- a word under a bit of layer 1 that is clear
pub under_clear : (words above : List ℕ) (key q : ℕ) → AreSummaries words above → bit_at (get_or above (16 * key + q / 64) 0) (q % 64) ≡ 0 → get_or words (1024 * key + q) 0 ≡ 0
under_clear words above key q summed clear = elim (cases_lt 0 (get_or words (1024 * key + q) 0)) [
  | inl some ↦
      let p : (1024 * key + q) / 64 ≡ 16 * key + q / 64 = omega arith in
      let b : (1024 * key + q) % 64 ≡ q % 64 = omega arith in
      let on = summed.bits (1024 * key + q) some in
      let here = ap (λ w. bit_at (get_or above w 0) ((1024 * key + q) % 64)) p ∙ ap (λ i. bit_at (get_or above (16 * key + q / 64) 0) i) b in
      absurd (omega (arith, on, here, clear))
  | inr none ↦ omega (arith, none)
]

-- a word under a word of layer 1 that is 0
pub under_zero : (words above : List ℕ) (key q : ℕ) → AreSummaries words above → get_or above (16 * key + q / 64) 0 ≡ 0 → get_or words (1024 * key + q) 0 ≡ 0
under_zero words above key q summed none = under_clear words above key q summed (ap (λ w. bit_at w (q % 64)) none ∙ bit_at-zero (q % 64))

pub is_nonzero : (word : ℕ) → not (word == 0) ≡ nat_lt 0 word
is_nonzero word = grind (arith, nat_tests)

-- one more word of layer 1
pub blocks_next : (old new b : ℕ) (on : Bool) (test : ℕ → Bool)
    → ((i : ℕ) → i < 64 → i ≢ b → bit_at new i ≡ bit_at old i) → bit_at new b ≡ bit_of on → on ≡ test b → b < 64
    → ((i : ℕ) → i < 64 → (bit_at old i == 1) ≡ (nat_lt i b && test i))
    → (i : ℕ) → i < 64 → (bit_at new i == 1) ≡ (nat_lt i (b + 1) && test i)
blocks_next old new b on test same here is small before i within = elim (same_or_not i b) [
  | inl e ↦ rw e (ap (λ x. x == 1) here ∙ (bit_test on ∙ (is ∙ sym (ap (λ t. t && test b) (lt-ltb b (b + 1) (omega arith))))))
  | inr other ↦ ap (λ x. x == 1) (same i within other) ∙ (before i within ∙ ap (λ t. t && test i) (lt_next i b other))
]
  where
    lt_next : (i b : ℕ) → i ≢ b → nat_lt i b ≡ nat_lt i (b + 1)
    lt_next i b other = grind (arith, nat_tests)
