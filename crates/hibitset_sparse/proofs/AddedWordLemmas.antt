-- Members of a chunk, and of a set, after the bits of words were added.
use Rattle.std.proofs.Common.{◌≡◌, ℕ, ◌+◌, ◌-◌, ◌*◌, ◌/◌, ◌%◌, ◌^◌, ◌<◌, ◌≤◌, ◌==◌, ◌||◌, ◌&&◌, true, false, List, get_or, length, take, Option, Some, None, bit_or, sym, ◌∙◌, ap, arith, inl, inr}
use Rattle.std.specs.Prelude.{◌≢◌, if◌then◌else◌, nat_le}
use Rattle.std.proofs.Math.Bool.{or-false}
use Rattle.std.proofs.lemmas.Bool.{cases_lt, le-leb, lt-leb}
use Rattle.std.proofs.lemmas.List.{get_or-take, get_or_past, length-take-le}
use Rattle.std.proofs.lemmas.Nat.Bits.{bit_at-zero}
use Rattle.hibitset_base.specs.Decisions.{eq_other, eq_same, same_or_not}
use Rattle.hibitset_sparse.specs.AddedWords.{is_in_word, is_in_words}
use Rattle.hibitset_sparse.specs.Chunk.{has_in, or_zero}
use Rattle.hibitset_sparse.specs.Merge.{or_bits}
use Rattle.hibitset_sparse.specs.Rank.{bit_is_set}
use Rattle.hibitset_sparse.specs.declared.chunk.Chunk.{Chunk}
use Rattle.hibitset_sparse.proofs.ChunkLemmas.{has_at, other-word, same-word}
use Rattle.hibitset_sparse.proofs.PackedArrayLemmas.{zero-is-clear}
use Rattle.hibitset_sparse.proofs.SetLemmas.{has_under, set-added-by}

-- no bit of 0 is set
pub none-set : (b : ℕ) → bit_is_set 0 b ≡ false
none-set b = zero-is-clear 0 b (bit_at-zero b)

-- 0 has no number
pub none-in-word : (index i : ℕ) → is_in_word index 0 i ≡ false
none-in-word index i = elim (same_or_not (i / 64) (index / 64)) [
  | inl row ↦ ap (λ t. t && bit_is_set 0 (i % 64)) (eq_same (i / 64) (index / 64) row) ∙ none-set (i % 64)
  | inr apart ↦ ap (λ t. t && bit_is_set 0 (i % 64)) (eq_other (i / 64) (index / 64) apart)
]

-- ---- a chunk

module _ (old new : ℕ → Option ℕ) (i v w : ℕ) where
  -- a word has the bits that it had and those of another
  pub has-word-added : ((p : ℕ) → p < 4096 → new p ≡ (if p == i / 64 then Some v else old p)) → ((b : ℕ) → bit_is_set v b ≡ (bit_is_set (or_zero (old (i / 64))) b || bit_is_set w b))
      → (j : ℕ) → j < 262144 → has_at new j ≡ (has_at old j || is_in_word i w j)
  has-word-added put bits j low = elim (same_or_not (j / 64) (i / 64)) [
    | inl row ↦
        let there : is_in_word i w j ≡ bit_is_set w (j % 64) = ap (λ t. t && bit_is_set w (j % 64)) (eq_same (j / 64) (i / 64) row) in
        same-word old new i v put j low row ∙ (bits (j % 64) ∙ (ap (λ p. bit_is_set (or_zero (old p)) (j % 64) || bit_is_set w (j % 64)) (sym row) ∙ sym (ap (λ t. has_at old j || t) there)))
    | inr apart ↦
        let none : is_in_word i w j ≡ false = ap (λ t. t && bit_is_set w (j % 64)) (eq_other (j / 64) (i / 64) apart) in
        other-word old new i v put j low apart ∙ sym (ap (λ t. has_at old j || t) none ∙ or-false (has_at old j))
  ]

-- the bits of a word that was there, and others
pub bits-written : (o : Option ℕ) (word w : ℕ) → o ≡ Some word → (b : ℕ) → bit_is_set (bit_or word w) b ≡ (bit_is_set (or_zero o) b || bit_is_set w b)
bits-written o word w is b = or_bits word w b ∙ ap (λ x. bit_is_set (or_zero x) b || bit_is_set w b) (sym is)

-- ---- a set

module _ (old new : ℕ → Option Chunk) (id w : ℕ) (chunk : Chunk) (put : (c : ℕ) → c < 4096 → new c ≡ (if c == id / 262144 then Some chunk else old c)) (old_past : (c : ℕ) → 4096 ≤ c → old c ≡ None) (new_past : (c : ℕ) → 4096 ≤ c → new c ≡ None) where
  -- the numbers of a word were added
  pub set-word-added : id < 2 ^ 30 → ((r : ℕ) → r < 262144 → has_in chunk r ≡ (has_under (old (id / 262144)) r || is_in_word (id % 262144) w r))
      → (j : ℕ) → has_under (new (j / 262144)) (j % 262144) ≡ (has_under (old (j / 262144)) (j % 262144) || is_in_word id w j)
  set-word-added within added = set-added-by old new id chunk put old_past new_past (is_in_word id w) none within
      (λ r low. added r low ∙ ap (λ b. has_under (old (id / 262144)) r || b) (here r low))
    where
      above : (x : ℕ) → x / 64 / 4096 ≡ x / 262144
      above x = omega arith

      none : (j : ℕ) → j / 262144 ≢ id / 262144 → is_in_word id w j ≡ false
      none j other = ap (λ t. t && bit_is_set w (j % 64)) (eq_other (j / 64) (id / 64) (λ e. other (sym (above j) ∙ (ap (λ x. x / 4096) e ∙ above id))))

      row : (r : ℕ) → r < 262144 → (r / 64 == id % 262144 / 64) ≡ ((262144 * (id / 262144) + r) / 64 == id / 64)
      row r low = elim (same_or_not (r / 64) (id % 262144 / 64)) [
        | inl e ↦ eq_same (r / 64) (id % 262144 / 64) e ∙ sym (eq_same ((262144 * (id / 262144) + r) / 64) (id / 64) (omega (arith, e)))
        | inr other ↦ eq_other (r / 64) (id % 262144 / 64) other ∙ sym (eq_other ((262144 * (id / 262144) + r) / 64) (id / 64) (λ e. other (omega (arith, e))))
      ]

      here : (r : ℕ) → r < 262144 → is_in_word (id % 262144) w r ≡ is_in_word id w (262144 * (id / 262144) + r)
      here r low =
          let bit : r % 64 ≡ (262144 * (id / 262144) + r) % 64 = omega arith in
          ap (λ t. t && bit_is_set w (r % 64)) (row r low) ∙ ap (λ b. ((262144 * (id / 262144) + r) / 64 == id / 64) && bit_is_set w b) bit

-- ---- words side by side

-- none is past the words
pub none-in-words : (first : ℕ) (words : List ℕ) (i : ℕ) → (first ≤ i / 64 → length words ≤ i / 64 - first) → is_in_words first words i ≡ false
none-in-words first words i past = elim (cases_lt (i / 64) first) [
  | inl before ↦ ap (λ t. t && bit_is_set (get_or words (i / 64 - first) 0) (i % 64)) (lt-leb first (i / 64) before)
  | inr from ↦
      let none : get_or words (i / 64 - first) 0 ≡ 0 = get_or_past words (i / 64 - first) 0 (past from) in
      ap (λ t. t && bit_is_set (get_or words (i / 64 - first) 0) (i % 64)) (le-leb first (i / 64) from) ∙ (ap (λ x. bit_is_set x (i % 64)) none ∙ none-set (i % 64))
]

-- one word more
pub next-in-words : (first : ℕ) (words : List ℕ) (n i : ℕ) → n < length words
    → is_in_words first (take (n + 1) words) i ≡ (is_in_words first (take n words) i || is_in_word (64 * (first + n)) (get_or words n 0) i)
next-in-words first words n i within =
    let long : length (take n words) ≡ n = length-take-le n words (omega (arith, within)) in
    let longer : length (take (n + 1) words) ≡ n + 1 = length-take-le (n + 1) words (omega (arith, within)) in
    let w : ℕ = get_or words n 0 in
    elim (same_or_not (i / 64) (first + n)) [
      | inl here ↦
          let none : is_in_words first (take n words) i ≡ false = none-in-words first (take n words) i (λ from. omega (arith, here, long)) in
          let at : i / 64 - first ≡ n = omega (arith, here) in
          let word : get_or (take (n + 1) words) (i / 64 - first) 0 ≡ w = ap (λ k. get_or (take (n + 1) words) k 0) at ∙ get_or-take (n + 1) words n 0 (omega arith) in
          let from : nat_le first (i / 64) ≡ true = le-leb first (i / 64) (omega (arith, here)) in
          let row : (i / 64 == 64 * (first + n) / 64) ≡ true = eq_same (i / 64) (64 * (first + n) / 64) (omega (arith, here)) in
          ap (λ t. t && bit_is_set (get_or (take (n + 1) words) (i / 64 - first) 0) (i % 64)) from ∙ (ap (λ x. bit_is_set x (i % 64)) word
          ∙ sym (ap (λ t. t || is_in_word (64 * (first + n)) w i) none ∙ ap (λ t. t && bit_is_set w (i % 64)) row))
      | inr other ↦
          let apart : is_in_word (64 * (first + n)) w i ≡ false = ap (λ t. t && bit_is_set w (i % 64)) (eq_other (i / 64) (64 * (first + n) / 64) (λ e. other (omega (arith, e)))) in
          same first words n i long longer other ∙ sym (ap (λ t. is_in_words first (take n words) i || t) apart ∙ or-false (is_in_words first (take n words) i))
    ]
  where
    same : (first : ℕ) (words : List ℕ) (n i : ℕ) → length (take n words) ≡ n → length (take (n + 1) words) ≡ n + 1 → i / 64 ≢ first + n → is_in_words first (take (n + 1) words) i ≡ is_in_words first (take n words) i
    same first words n i long longer other = elim (cases_lt (i / 64) (first + n)) [
      | inl below ↦ elim (cases_lt (i / 64) first) [
        | inl before ↦
            let no : nat_le first (i / 64) ≡ false = lt-leb first (i / 64) before in
            ap (λ t. t && bit_is_set (get_or (take (n + 1) words) (i / 64 - first) 0) (i % 64)) no ∙ sym (ap (λ t. t && bit_is_set (get_or (take n words) (i / 64 - first) 0) (i % 64)) no)
        | inr from ↦
            let word : get_or (take (n + 1) words) (i / 64 - first) 0 ≡ get_or (take n words) (i / 64 - first) 0 =
            get_or-take (n + 1) words (i / 64 - first) 0 (omega (arith, below, from)) ∙ sym (get_or-take n words (i / 64 - first) 0 (omega (arith, below, from))) in
            ap (λ x. nat_le first (i / 64) && bit_is_set x (i % 64)) word
      ]
      | inr past ↦ none-in-words first (take (n + 1) words) i (λ from. omega (arith, past, other, longer)) ∙ sym (none-in-words first (take n words) i (λ from. omega (arith, past, long)))
    ]
