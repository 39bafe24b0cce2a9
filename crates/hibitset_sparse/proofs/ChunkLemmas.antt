-- The members of a chunk, after a word was written.
use Rattle.std.proofs.Common.{◌≡◌, ℕ, zero, suc, ◌/◌, ◌%◌, ◌^◌, ◌<◌, ◌==◌, ◌||◌, ◌&&◌, not, Bool, true, false, Option, Some, Result, Ok, Err, OnOk, OnErr, refl, sym, ◌∙◌, ap, arith, inl, inr}
use Rattle.std.specs.Prelude.{◌≢◌, if◌then◌else◌, slice_get}
use Rattle.std.specs.Int.{bit_at}
use Rattle.std.proofs.Math.Bool.{or-false, or-true}
use Rattle.std.proofs.lemmas.Option.{same_Some}
use Rattle.hibitset_base.specs.Decisions.{eq_other, eq_same, same_or_not}
use Rattle.hibitset_sparse.specs.Chunk.{chunk_word, or_zero}
use Rattle.hibitset_sparse.specs.PackedArray.{value_in}
use Rattle.hibitset_sparse.specs.Rank.{value_from, bit_is_set}
use Rattle.hibitset_sparse.specs.Layout.{value_of_place, word_or_none}
use Rattle.hibitset_sparse.specs.Table.{value_at, group_word, AreNonzero, IsSameTable}
use Rattle.hibitset_sparse.specs.declared.table.Table.{Table}
use Rattle.hibitset_sparse.specs.declared.chunk.Chunk.{Chunk}
use Rattle.hibitset_sparse.proofs.PackedArrayLemmas.{one-is-set, zero-is-clear}

-- the index has its bit set in its word
abbrev pub has_at : (ℕ → Option ℕ) → ℕ → Bool
has_at word j = bit_is_set (or_zero (word (j / 64))) (j % 64)

-- Word v has bit b set or cleared, and is w otherwise.
pub record IsWritten (v w b bit : ℕ) : Type 0 where
  pub here : bit_at v b ≡ bit
  pub same : (c : ℕ) → c < 64 → c ≢ b → bit_at v c ≡ bit_at w c

pub and-false : (b : Bool) → (b && not true) ≡ false
and-false true = refl
and-false false = refl

pub and-true : (b : Bool) → (b && not false) ≡ b
and-true true = refl
and-true false = refl

module _ (old new : ℕ → Option ℕ) (i v : ℕ) where
  pub other-word : ((p : ℕ) → p < 4096 → new p ≡ (if p == i / 64 then Some v else old p)) → (j : ℕ) → j < 262144 → j / 64 ≢ i / 64 → has_at new j ≡ has_at old j
  other-word put j low other =
      let is : (if j / 64 == i / 64 then Some v else old (j / 64)) ≡ old (j / 64) = rw (eq_other (j / 64) (i / 64) other) refl in
      ap (λ o. bit_is_set (or_zero o) (j % 64)) (put (j / 64) (omega arith) ∙ is)

  pub same-word : ((p : ℕ) → p < 4096 → new p ≡ (if p == i / 64 then Some v else old p)) → (j : ℕ) → j < 262144 → j / 64 ≡ i / 64 → has_at new j ≡ bit_is_set v (j % 64)
  same-word put j low same =
      let is : (if j / 64 == i / 64 then Some v else old (j / 64)) ≡ Some v = rw (eq_same (j / 64) (i / 64) same) refl in
      ap (λ o. bit_is_set (or_zero o) (j % 64)) (put (j / 64) (omega arith) ∙ is)

  pub has-added : ((p : ℕ) → p < 4096 → new p ≡ (if p == i / 64 then Some v else old p)) → IsWritten v (or_zero (old (i / 64))) (i % 64) 1
      → (j : ℕ) → j < 262144 → has_at new j ≡ (has_at old j || j == i)
  has-added put is j low = elim (same_or_not j i) [
    | inl same ↦ rw (eq_same j i same, or-true (has_at old j)) (rw same (same-word put i (omega (arith, same, low)) refl ∙ one-is-set v (i % 64) is.here))
    | inr other ↦ rw (eq_other j i other, or-false (has_at old j)) (elim (same_or_not (j / 64) (i / 64)) [
      | inl row ↦ same-word put j low row ∙ (ap (λ x. x == 1) (is.same (j % 64) (omega arith) (λ bit. other (omega (arith, row, bit)))) ∙ ap (λ p. bit_is_set (or_zero (old p)) (j % 64)) (sym row))
      | inr apart ↦ other-word put j low apart
    ])
  ]

module _ {T : Type 0} where
  -- a table that stays the same has the same words and values
  pub same-value : (old new : Table T) → IsSameTable old new → (i : ℕ) → value_at new i ≡ value_at old i
  same-value old new is i = ap (λ word. value_of_place (value_from (slice_get new.groups.items.items) word) new.items.items i) is.root
      ∙ (ap (λ items. value_of_place (value_from (slice_get items) old.groups.word) new.items.items i) is.groups ∙ ap (λ items. value_of_place (value_in old.groups) items i) is.items)

  pub same-group_word : (old new : Table T) → IsSameTable old new → (q : ℕ) → group_word new q ≡ group_word old q
  same-group_word old new is q = ap (λ word. word_or_none (value_from (slice_get new.groups.items.items) word q)) is.root
      ∙ ap (λ items. word_or_none (value_from (slice_get items) old.groups.word q)) is.groups

pub same-chunk : (old new : Chunk) → IsSameTable old.words new.words → (l p : ℕ) → l < 3 → chunk_word new l p ≡ chunk_word old l p
same-chunk old new is zero p low = ap or_zero (same-value old.words new.words is p)
same-chunk old new is (suc zero) p low = same-group_word old.words new.words is p
same-chunk old new is (suc (suc l)) p low = ap (λ root. if p == 0 then root else 0) is.root

-- after a word was written that is not 0, none is
pub nonzero-put : (old new : ℕ → Option ℕ) (i v : ℕ) → 0 < v → v < 2 ^ 64 → ((p : ℕ) → p < 4096 → new p ≡ (if p == i then Some v else old p)) → ((p w : ℕ) → p < 4096 → old p ≡ Some w → (0 < w) × (w < 2 ^ 64)) → (p w : ℕ) → p < 4096 → new p ≡ Some w → (0 < w) × (w < 2 ^ 64)
nonzero-put old new i v some fits put nonzero p w low is = elim (same_or_not p i) [
  | inl same ↦
      let here : (if p == i then Some v else old p) ≡ Some v = rw (eq_same p i same) refl in
      let v-is : v ≡ w = same_Some v w (sym here ∙ (sym (put p low) ∙ is)) in
      (omega (arith, v-is, some), omega (arith, v-is, fits))
  | inr other ↦
      let here : (if p == i then Some v else old p) ≡ old p = rw (eq_other p i other) refl in
      nonzero p w low (sym here ∙ (sym (put p low) ∙ is))
]

-- the index was taken out, where its word is x then
pub has-removed : (old new : ℕ → Option ℕ) (i : ℕ) (x : Option ℕ) → ((p : ℕ) → p < 4096 → new p ≡ (if p == i / 64 then x else old p)) → IsWritten (or_zero x) (or_zero (old (i / 64))) (i % 64) 0
    → (j : ℕ) → j < 262144 → has_at new j ≡ (has_at old j && not (j == i))
has-removed old new i x put is j low = elim (same_or_not (j / 64) (i / 64)) [
  | inl row ↦
      let here : (if j / 64 == i / 64 then x else old (j / 64)) ≡ x = rw (eq_same (j / 64) (i / 64) row) refl in
      let now : has_at new j ≡ bit_is_set (or_zero x) (j % 64) = ap (λ o. bit_is_set (or_zero o) (j % 64)) (put (j / 64) (omega arith) ∙ here) in
      elim (same_or_not j i) [
        | inl same ↦
            let bit : bit_is_set (or_zero x) (j % 64) ≡ false = ap (λ k. bit_is_set (or_zero x) (k % 64)) same ∙ zero-is-clear (or_zero x) (i % 64) is.here in
            rw (eq_same j i same, and-false (has_at old j)) (now ∙ bit)
        | inr other ↦
            let bit : bit_is_set (or_zero x) (j % 64) ≡ has_at old j = ap (λ y. y == 1) (is.same (j % 64) (omega arith) (λ b. other (omega (arith, row, b)))) ∙ ap (λ p. bit_is_set (or_zero (old p)) (j % 64)) (sym row) in
            rw (eq_other j i other, and-true (has_at old j)) (now ∙ bit)
      ]
  | inr apart ↦
      let there : (if j / 64 == i / 64 then x else old (j / 64)) ≡ old (j / 64) = rw (eq_other (j / 64) (i / 64) apart) refl in
      let now : has_at new j ≡ has_at old j = ap (λ o. bit_is_set (or_zero o) (j % 64)) (put (j / 64) (omega arith) ∙ there) in
      let other : (j == i) ≡ false = eq_other j i (λ e. apart (ap (λ k. k / 64) e)) in
      rw (other, and-true (has_at old j)) now
]

-- the same where that was tried
pub nonzero-insert : {A E : Type 0} (r : Result A E) (old new : Table ℕ) (i v : ℕ)
    → OnOk r ((p : ℕ) → p < 4096 → value_at new p ≡ (if p == i then Some v else value_at old p)) → OnErr r (IsSameTable old new)
    → 0 < v → v < 2 ^ 64 → AreNonzero old → AreNonzero new
nonzero-insert (Ok x) old new i v put same some fits nonzero = nonzero-put (value_at old) (value_at new) i v some fits put nonzero
nonzero-insert (Err e) old new i v put same some fits nonzero = λ p w low is. nonzero p w low (sym (same-value old new same p) ∙ is)
