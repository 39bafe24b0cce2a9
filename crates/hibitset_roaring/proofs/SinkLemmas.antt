-- Words of one container, put where its high bits are.
use Rattle.std.proofs.Common.{◌≡◌, ℕ, ◌-◌, ◌*◌, ◌/◌, ◌%◌, ◌<◌, ◌==◌, ◌||◌, ◌&&◌, Bool, true, false, List, get_or, length, sym, ap, ◌∙◌, arith, inl, inr}
use Rattle.std.specs.Prelude.{nat_le}
use Rattle.std.specs.Int.{bit_at}
use Rattle.std.proofs.lemmas.Bool.{cases_Bool, cases_lt, le-leb, le-ltb, lt-ltb}
use Rattle.std.proofs.lemmas.List.{get_or_past}
use Rattle.std.proofs.lemmas.Nat.Bits.{bit_at-zero}
use Rattle.hibitset_base.specs.Connectives.{is_member}
use Rattle.hibitset_base.specs.Decisions.{eq_same, eq_other, same_or_not}
use Rattle.hibitset.specs.WordBits.{stands_in}
use Rattle.hibitset_sparse.specs.AddedWords.{AddsWords, is_in_words}
use Rattle.hibitset_sparse.proofs.AddedWordLemmas.{none-in-words}
use Rattle.hibitset_roaring.specs.Format.{key_of, in_container}
use Rattle.hibitset_roaring.specs.Words.{Adds}

-- no words have no members
none_in : (words : List ℕ) (i : ℕ) → length words ≡ 0 → stands_in words i ≡ false
none_in words i none = ap (λ w. bit_at w (i % 64) == 1) (get_or_past words (i / 64) 0 (omega (arith, none))) ∙ ap (λ x. x == 1) (bit_at-zero (i % 64))

module _ (low : ℕ → Bool) (empty words : List ℕ) (none : length empty ≡ 0) (adds : Adds 0 low empty words) where
  -- the words have the low bits that pass the test
  low_is : (v : ℕ) → v < 65536 → stands_in words v ≡ low v
  low_is v small =
      let zero_high : (v / 65536 == 0) ≡ true = eq_same (v / 65536) 0 (omega (arith, small)) in
      let same : v % 65536 ≡ v = omega (arith, small) in
      adds.bits v ∙ (ap (λ t. t || ((v / 65536 == 0) && low (v % 65536))) (none_in empty v none) ∙ (ap (λ t. t && low (v % 65536)) zero_high ∙ ap low same))

  -- added at a key, they add what has its high bits
  pub added_at : (key : ℕ) → length words ≡ 1024 → (i : ℕ) → is_in_words (1024 * key) words i ≡ ((i / 65536 == key) && low (i % 65536))
  added_at key long i = elim (same_or_not (i / 65536) key) [
    | inl here ↦
        let from : nat_le (1024 * key) (i / 64) ≡ true = le-leb (1024 * key) (i / 64) (omega (arith, here)) in
        let at : i / 64 - 1024 * key ≡ i % 65536 / 64 = omega (arith, here) in
        let bit : i % 64 ≡ i % 65536 % 64 = omega arith in
        ap (λ t. t && (bit_at (get_or words (i / 64 - 1024 * key) 0) (i % 64) == 1)) from
        ∙ (ap (λ p. bit_at (get_or words p 0) (i % 64) == 1) at
        ∙ (ap (λ b. bit_at (get_or words (i % 65536 / 64) 0) b == 1) bit
        ∙ (low_is (i % 65536) (omega arith)
        ∙ sym (ap (λ t. t && low (i % 65536)) (eq_same (i / 65536) key here)))))
    | inr other ↦
        none-in-words (1024 * key) words i (λ from. omega (arith, from, other, long))
        ∙ sym (ap (λ t. t && low (i % 65536)) (eq_other (i / 65536) key other))
  ]

-- a container read into words alone, and these added at its key
pub container_added : (bytes : List ℕ) (k key : ℕ) (empty words : List ℕ) (old new : ℕ → Bool) → key ≡ key_of bytes k → length empty ≡ 0 → length words ≡ 1024
    → Adds 0 (in_container bytes k) empty words → AddsWords (1024 * key) words old new
    → (i : ℕ) → new i ≡ (old i || ((i / 65536 == key_of bytes k) && in_container bytes k (i % 65536)))
container_added bytes k key empty words old new is none long adds added i =
    added i ∙ (ap (λ t. old i || t) (added_at (in_container bytes k) empty words none adds key long i)
    ∙ ap (λ h. old i || ((i / 65536 == h) && in_container bytes k (i % 65536))) is)

-- a set whose numbers all lie within the range
pub member_within : (holds : ℕ → Bool) → ((i : ℕ) → holds i ≡ true → i < 1073741824) → (i : ℕ) → is_member holds i ≡ holds i
member_within holds within i = elim (cases_lt i 1073741824) [
  | inl low ↦ ap (λ t. t && holds i) (lt-ltb i 1073741824 low)
  | inr past ↦ ap (λ t. t && holds i) (le-ltb i 1073741824 past) ∙ sym (elim (cases_Bool (holds i)) [
    | inl on ↦ absurd (let low = within i on in omega (arith, low, past))
    | inr off ↦ off
  ])
]
