-- Words of layer 0, by the members that they have.
use Rattle.std.proofs.Common.{◌≡◌, ℕ, ◌+◌, ◌*◌, ◌/◌, ◌%◌, ◌==◌, ◌||◌, true, false, None, Result, Ok, Err, OnOk, OnErr, refl, sym, ◌∙◌, ap, arith, inl, inr}
use Rattle.std.specs.Prelude.{◌≢◌}
use Rattle.std.specs.Int.{bit_at}
use Rattle.std.proofs.Math.Bool.{or-false}
use Rattle.std.proofs.lemmas.Bool.{false≢true, or_parts}
use Rattle.std.proofs.lemmas.Nat.Bits.{bit_at-zero, same_from_bits_below}
use Rattle.hibitset_base.specs.Decisions.{eq_other}
use Rattle.hibitset_base.specs.Words.{holds_at}
use Rattle.hibitset_sparse.specs.Chunks.{word_in, word_under}
use Rattle.hibitset_sparse.specs.SparseBitSet.{has, word_of}
use Rattle.hibitset_sparse.specs.Table.{value_at}
use Rattle.hibitset_sparse.specs.declared.chunk.Chunk.{Chunk}
use Rattle.hibitset_sparse.specs.declared.set.SparseBitSet.{SparseBitSet}
use Rattle.hibitset_sparse.specs.declared.table.Table.{Table}
use Rattle.hibitset_sparse.proofs.ExactLemmas.{words-fit}
use Rattle.hibitset_sparse.proofs.PackedArrayLemmas.{one-is-set}
use Rattle.hibitset_sparse.proofs.WordLemmas.{bit_cases}

-- the word of an index is one of its chunk
pub word-under : (chunks : Table Chunk) (i : ℕ) → word_in chunks 0 (i / 64) ≡ word_under (value_at chunks (i / 262144)) 0 (i % 262144 / 64)
unfolding word_in
word-under chunks i =
    let c : i / 64 / 4096 ≡ i / 262144 = omega arith in
    let w : i / 64 % 4096 ≡ i % 262144 / 64 = omega arith in
    rw (c, w) refl

-- the word of an index that has no chunk is 0
pub no-word : (chunks : Table Chunk) (i : ℕ) → value_at chunks (i / 262144) ≡ None → word_in chunks 0 (i / 64) ≡ 0
no-word chunks i none = word-under chunks i ∙ ap (λ o. word_under o 0 (i % 262144 / 64)) none

-- a word without members is 0
pub zero-word : (set : SparseBitSet) (p : ℕ) → ((i : ℕ) → i / 64 ≡ p → has set i ≡ false) → word_of set 0 p ≡ 0
unfolding has word_of
zero-word set p none =
    same_from_bits_below 64 (word_of set 0 p) 0 (words-fit set.chunks 0 p) (omega arith) (λ b small. elim (bit_cases (word_of set 0 p) b) [
      | inl one ↦
          let here : (64 * p + b) / 64 ≡ p = omega arith in
          let bit : (64 * p + b) % 64 ≡ b = omega arith in
          let set-there : holds_at (word_of set) (64 * p + b) ≡ true = rw (here, bit) (one-is-set (word_of set 0 p) b one) in
          absurd (false≢true (sym (none (64 * p + b) here) ∙ set-there))
      | inr zero-bit ↦ zero-bit ∙ sym (bit_at-zero b)
    ])

-- no index of a word that is 0 is a member
pub clear-index : (set : SparseBitSet) (i : ℕ) → word_of set 0 (i / 64) ≡ 0 → has set i ≡ false
unfolding has
clear-index set i none = ap (λ w. bit_at w (i % 64) == 1) none ∙ ap (λ b. b == 1) (bit_at-zero (i % 64))

module _ (old new : SparseBitSet) where
  -- where each member of the new set is one of the old set, a word that was 0 stays 0
  pub stays-zero : ((i : ℕ) → has old i ≡ false → has new i ≡ false) → (p : ℕ) → word_of old 0 p ≡ 0 → word_of new 0 p ≡ 0
  stays-zero fewer p none = zero-word new p (λ i here. fewer i (clear-index old i (ap (word_of old 0) here ∙ none)))

  module _ (index : ℕ) where
    -- where an index was added, a word that it is not in stays 0
    pub others-zero : ((i : ℕ) → has new i ≡ (has old i || i == index)) → (j : ℕ) → word_of old 0 (j / 64) ≡ 0
        → index / 64 ≢ j / 64 → word_of new 0 (j / 64) ≡ 0
    others-zero added j none apart = zero-word new (j / 64) (λ i here.
        let other : (i == index) ≡ false = eq_other i index (λ same. apart (ap (λ k. k / 64) (sym same) ∙ here)) in
        added i ∙ (ap (λ b. has old i || b) other ∙ (or-false (has old i) ∙ clear-index old i (ap (word_of old 0) here ∙ none))))

    -- what is not there after an index was added, or was to be, was not there before
    pub was-clear : {A E : Type 0} (r : Result A E) → OnOk r ((i : ℕ) → has new i ≡ (has old i || i == index))
        → OnErr r ((i : ℕ) → has new i ≡ has old i) → (i : ℕ) → has new i ≡ false → has old i ≡ false
    was-clear (Ok x) added same i none = (or_parts (has old i) (i == index) (sym (added i) ∙ none)).0
    was-clear (Err e) added same i none = sym (same i) ∙ none
