-- A set's members, once chunks that were made for it have taken the place of its own.
use Rattle.std.proofs.Common.{◌≡◌, ℕ, ◌+◌, ◌*◌, ◌/◌, ◌%◌, ◌^◌, ◌<◌, ◌≤◌, ◌||◌, ◌&&◌, not, Bool, true, false, nat_lt, [], Option, Some, None, refl, sym, ◌∙◌, ap, arith, inr, inl}
use Rattle.std.proofs.Math.Bool.{and-false, or-false}
use Rattle.std.proofs.lemmas.Bool.{cases_lt}
use Rattle.hibitset_base.specs.Connectives.{is_member}
use Rattle.hibitset_base.specs.Members.{members_below}
use Rattle.hibitset_base.specs.Virtual.{differ}
use Rattle.hibitset_base.specs.Words.{holds_at}
use Rattle.hibitset_base.specs.declared.util.TheConstants.{MAX_EID}
use Rattle.hibitset_sparse.specs.Decisions.{lt_no, lt_yes}
use Rattle.hibitset_sparse.specs.Chunks.{word_in}
use Rattle.hibitset_sparse.specs.Replacement.{has_in_or, AreChunksOf}
use Rattle.hibitset_sparse.specs.SparseBitSet.{has, word_of}
use Rattle.hibitset_sparse.specs.Table.{value_at}
use Rattle.hibitset_sparse.specs.declared.chunk.Chunk.{Chunk}
use Rattle.hibitset_sparse.specs.declared.set.SparseBitSet.{SparseBitSet}
use Rattle.hibitset_sparse.specs.declared.table.Table.{Table}
use Rattle.hibitset_base.proofs.FirstLemmas.{none_below}
use Rattle.hibitset_sparse.proofs.ExactLemmas.{members-within}

-- no number past the range is a member
pub none-past : (set : SparseBitSet) (i : ℕ) → 2 ^ 30 ≤ i → has set i ≡ false
unfolding has word_of
none-past set i past = by (holds_at (word_in set.chunks) i) (members-within set.chunks i)
  where
    by : (b : Bool) → (b ≡ true → i < 2 ^ 30) → b ≡ false
    by false within = refl
    by true within = absurd (let low = within refl in omega (arith, low, past))

module _ (holds touched old : ℕ → Bool) (chunks : Table Chunk) (made : AreChunksOf holds touched chunks) (same : (i : ℕ) → i < 2 ^ 30 → touched i ≡ false → holds i ≡ old i) where
  -- an index is there exactly if it is in what the chunks were made of
  pub replaced : (i : ℕ) → i < 2 ^ 30 → has_in_or (value_at chunks (i / 262144)) i (old i) ≡ holds i
  replaced i low = elim-option (value_at chunks (i / 262144)) refl
    where
      elim-option : (o : Option Chunk) → value_at chunks (i / 262144) ≡ o → has_in_or o i (old i) ≡ holds i
      elim-option None is =
          let whole : 262144 * (i / 262144) + i % 262144 ≡ i = omega arith in
          sym (same i low (ap touched (sym whole) ∙ made.all (i / 262144) (omega (arith, low)) is (i % 262144) (omega arith)))
      elim-option (Some chunk) is =
          let whole : 262144 * (i / 262144) + i % 262144 ≡ i = omega arith in
          made.is (i / 262144) chunk (omega (arith, low)) is (i % 262144) (omega arith) ∙ ap holds whole

one-alone : (a b : Bool) → b ≡ false → differ a b ≡ a
one-alone true b off = ap not off
one-alone false b off = off

-- a set without members has none
pub empty-member : (p : ℕ → Bool) (i : ℕ) → members_below MAX_EID p ≡ [] → is_member p i ≡ false
empty-member p i none = elim (cases_lt i MAX_EID) [
  | inl low ↦ ap (λ b. nat_lt i MAX_EID && b) (none_below MAX_EID p none i low) ∙ and-false (nat_lt i MAX_EID)
  | inr past ↦ (let no : nat_lt i MAX_EID ≡ false = lt_no i MAX_EID past in rw no refl)
]

pub none-if-empty : (set : SparseBitSet) (i : ℕ) → members_below MAX_EID (has set) ≡ [] → has set i ≡ false
none-if-empty set i none = elim (cases_lt i (2 ^ 30)) [
  | inl low ↦ none_below MAX_EID (has set) none i low
  | inr past ↦ none-past set i past
]

-- The parts of a union and of a symmetric difference with the members of another.
module _ (a b : Bool) where
  pub either-same : b ≡ false → (a || b) ≡ a
  either-same off = rw off (or-false a)

  pub one-same : b ≡ false → differ a b ≡ a
  one-same off = one-alone a b off

  module _ (i : ℕ) where
    pub either-within : i < 2 ^ 30 → (a || b) ≡ (a || (nat_lt i MAX_EID && b))
    either-within low = rw (lt_yes i (2 ^ 30) low) refl

    pub one-within : i < 2 ^ 30 → differ a b ≡ differ a (nat_lt i MAX_EID && b)
    one-within low = rw (lt_yes i (2 ^ 30) low) refl

    pub either-past : (n : Bool) → 2 ^ 30 ≤ i → a ≡ false → n ≡ false → n ≡ (a || (nat_lt i MAX_EID && b))
    either-past n past none gone = rw (none, gone, lt_no i (2 ^ 30) past) refl

    pub one-past : (n : Bool) → 2 ^ 30 ≤ i → a ≡ false → n ≡ false → n ≡ differ a (nat_lt i MAX_EID && b)
    one-past n past none gone = rw (none, gone, lt_no i (2 ^ 30) past) refl
