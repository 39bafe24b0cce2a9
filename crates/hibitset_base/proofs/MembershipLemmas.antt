-- The members of a set whose words have changed.
use Rattle.std.proofs.Common.{◌≡◌, ◌≢◌, ℕ, zero, suc, ◌+◌, ◌-◌, ◌*◌, ◌/◌, ◌%◌, ◌^◌, ◌<◌, ◌≤◌, Bool, true, false, cond, ◌==◌, ◌||◌, ◌&&◌, not, List, [], ◌∷◌, get_or, length, refl, sym, ◌∙◌, ap, arith, inl, inr, Result, Ok, Err, OnErr, ◌↔◌}
use mathlib.Core.Bool.{beq}
use Rattle.std.specs.Int.{bit_at}
use Rattle.std.proofs.Math.Nat.{pow-suc}
use Rattle.std.proofs.lemmas.Nat.Bits.{bit_at-lt, bit_at-zero, same_from_bits_below}
use Rattle.std.proofs.lemmas.Bool.{cases_lt}
use Rattle.std.proofs.lemmas.Bool.Decides.{nat_tests}
use Rattle.hibitset_base.specs.Decisions.{same_or_not, eq_same, eq_other}
use Rattle.hibitset_base.specs.Sets.{bit_of}
use Rattle.hibitset_base.specs.Words.{IsShaped, SummariesExactEverywhere, word_at, holds_at}

pub bit_test : (s : Bool) → (bit_of s == 1) ≡ s
bit_test true = refl
bit_test false = refl

-- the same words have the same members
pub holds_same : (w v : ℕ → ℕ → ℕ) (i : ℕ) → ((l p : ℕ) → v l p ≡ w l p) → holds_at v i ≡ holds_at w i
holds_same w v i same = ap (λ x. bit_at x (i % 64) == 1) (same 0 (i / 64))

-- one bit of layer 0 is set or cleared
pub holds_put : (w v : ℕ → ℕ → ℕ) (i : ℕ) (s : Bool) → bit_at (v 0 (i / 64)) (i % 64) ≡ bit_of s → ((b : ℕ) → b < 64 → b ≢ i % 64 → bit_at (v 0 (i / 64)) b ≡ bit_at (w 0 (i / 64)) b) → ((p : ℕ) → p ≢ i / 64 → v 0 p ≡ w 0 p)
    → (j : ℕ) → holds_at v j ≡ cond (j == i) s (holds_at w j)
holds_put w v i s here bits others j = elim (same_or_not j i) [
  | inl e ↦ rw (e, eq_same i i refl, here) (bit_test s)
  | inr other ↦
      let kept : bit_at (v 0 (j / 64)) (j % 64) ≡ bit_at (w 0 (j / 64)) (j % 64) =
      elim (same_or_not (j / 64) (i / 64)) [
        | inl q ↦
            let b : j % 64 ≢ i % 64 = λ f. other (omega arith) in
            rw q (bits (j % 64) (omega arith) b)
        | inr q ↦ ap (λ x. bit_at x (j % 64)) (others (j / 64) q)
      ] in
      rw (eq_other j i other, kept) refl
]

pub put_in : (b h : Bool) → cond b true h ≡ (h || b)
put_in true true = refl
put_in true false = refl
put_in false true = refl
put_in false false = refl

pub put_out : (b h : Bool) → cond b false h ≡ (h && not b)
put_out true true = refl
put_out true false = refl
put_out false true = refl
put_out false false = refl

past_end : (xs : List ℕ) (p : ℕ) → length xs ≤ p → get_or xs p 0 ≡ 0
past_end [] p past = refl
past_end (x ∷ xs) zero past = absurd (omega arith)
past_end (x ∷ xs) (suc p) past = past_end xs p (omega arith)

-- the word of a member lies in layer 0
pub member_within : (layers : List (List ℕ)) (i : ℕ) → holds_at (word_at layers) i ≡ true → i / 64 < length (get_or layers 0 [])
member_within layers i holds = elim (cases_lt (i / 64) (length (get_or layers 0 []))) [
  | inl within ↦ within
  | inr past ↦
      let none : holds_at (word_at layers) i ≡ false = rw (past_end (get_or layers 0 []) (i / 64) past, bit_at-zero (i % 64)) refl in
      let wrong : true ≡ false = sym holds ∙ none in
      absurd (cc)
]

-- no word of layer 0 lies past the range
pub end_of_words : (n : ℕ) (lists : List (List ℕ)) → 0 < n → IsShaped n lists → (p : ℕ) → 64 ^ (n - 1) ≤ p → word_at lists 0 p ≡ 0
end_of_words n lists some shaped p past =
    let all : n - 1 - 0 ≡ n - 1 = omega arith in
    let short : length (get_or lists 0 []) ≤ 64 ^ (n - 1) = rw all at (shaped.short 0 some) in
    past_end (get_or lists 0 []) p (omega (arith, short, past))

-- no number past the range is a member
pub member_below : (n : ℕ) (lists : List (List ℕ)) → 0 < n → IsShaped n lists → (i : ℕ) → holds_at (word_at lists) i ≡ true → i < 64 ^ n
member_below n lists some shaped i holds =
    let size : 64 ^ n ≡ 64 ^ (n - 1) * 64 = (let s : n ≡ suc (n - 1) = omega arith in ap (λ x. 64 ^ x) s ∙ pow-suc 64 (n - 1)) in
    let within : i / 64 < length (get_or lists 0 []) = member_within lists i holds in
    let all : n - 1 - 0 ≡ n - 1 = omega arith in
    let short : length (get_or lists 0 []) ≤ 64 ^ (n - 1) = rw all at (shaped.short 0 some) in
    rw size (omega (arith, within, short))

pub OnErr-always : {A E : Type 0} {P : Type 0} (r : Result A E) → P → OnErr r P
OnErr-always (Ok a) h = tt
OnErr-always (Err e) h = h

-- Where one bit is set to `s` and that changes the word, the bit was the other.
pub turned : (before word bit : ℕ) (s : Bool) → before < 2 ^ 64 → word < 2 ^ 64 → (word ≡ before → ⊥) → ((b : ℕ) → b < 64 → b ≢ bit → bit_at word b ≡ bit_at before b) → bit_at word bit ≡ bit_of s → not s ≡ (bit_at before bit == 1)
turned before word bit s fits_before fits_word differ others here = by_bit s (bit_at before bit) (bit_at-lt before bit) (λ e. differ (same_word (here ∙ sym e)))
  where
    same_word : bit_at word bit ≡ bit_at before bit → word ≡ before
    same_word e = same_from_bits_below 64 word before fits_word fits_before (λ b small. elim (same_or_not b bit) [ inl is ↦ rw is e | inr other ↦ others b small other ])

    by_bit : (s : Bool) (x : ℕ) → x < 2 → (x ≡ bit_of s → ⊥) → not s ≡ (x == 1)
    by_bit true zero small wrong = refl
    by_bit true (suc zero) small wrong = absurd (wrong refl)
    by_bit false zero small wrong = absurd (wrong refl)
    by_bit false (suc zero) small wrong = refl
    by_bit s (suc (suc x)) small wrong = absurd (omega arith)

-- one of two words is 0 exactly if the other is
pub same_test : (x y : ℕ) → beq (x == 0) (y == 0) ≡ true → (0 < x) ↔ (0 < y)
same_test x y h = grind (arith, nat_tests)

-- words that are all 0 have no member, and exact summaries
pub holds_none : (w : ℕ → ℕ → ℕ) → ((l p : ℕ) → w l p ≡ 0) → (i : ℕ) → holds_at w i ≡ false
holds_none w none i = rw (none 0 (i / 64), bit_at-zero (i % 64)) refl

pub summed_none : (n : ℕ) (w : ℕ → ℕ → ℕ) → ((l p : ℕ) → w l p ≡ 0) → SummariesExactEverywhere n w
summed_none n w none = record {
  summed = λ l p b below small. rw (none (l + 1) p, none l (64 * p + b), bit_at-zero b) (λ e. absurd (omega arith), λ h. absurd (omega arith));
}

-- a member has a nonzero word
pub some_word : (w : ℕ → ℕ → ℕ) (i : ℕ) → holds_at w i ≡ true → 0 < w 0 (i / 64)
some_word w i holds = elim (same_or_not (w 0 (i / 64)) 0) [
  | inl e ↦ absurd (let none : holds_at w i ≡ false = rw (e, bit_at-zero (i % 64)) refl in let wrong : true ≡ false = sym holds ∙ none in cc)
  | inr some ↦ omega arith
]
