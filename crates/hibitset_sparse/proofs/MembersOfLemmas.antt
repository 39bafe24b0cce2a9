-- The members in a table of chunks are those of its set.
use Rattle.std.proofs.Common.{◌≡◌, ℕ, ◌+◌, ◌-◌, ◌*◌, ◌/◌, ◌%◌, ◌<◌, ◌==◌, Bool, List, Option, Some, None, refl, sym, ◌∙◌, ap, arith}
use Rattle.std.specs.Int.{bit_at}
use Rattle.std.proofs.lemmas.Nat.Bits.{bit_at-zero}
use Rattle.hibitset_base.specs.Members.{members, members_below}
use Rattle.hibitset_base.specs.Places.{bits_from}
use Rattle.hibitset_base.specs.Words.{holds_at}
use Rattle.hibitset_base.specs.declared.util.TheConstants.{MAX_EID}
use Rattle.hibitset_base.proofs.MemberLemmas.{members-none, members-same}
use Rattle.hibitset_sparse.specs.Chunk.{or_zero}
use Rattle.hibitset_sparse.specs.Chunks.{word_in}
use Rattle.hibitset_sparse.specs.Rank.{bit_is_set}
use Rattle.hibitset_sparse.specs.Table.{value_at}
use Rattle.hibitset_sparse.specs.Walk.{entries_of, in_words, members_of}
use Rattle.hibitset_sparse.specs.declared.table.Table.{Table}
use Rattle.hibitset_sparse.specs.declared.chunk.Chunk.{Chunk}
use Rattle.hibitset_sparse.proofs.EntryLemmas.{given, table-blocks}
use Rattle.hibitset_sparse.proofs.PackedArrayLemmas.{zero-is-clear}
use Rattle.hibitset_sparse.proofs.SetLemmas.{has_under, holds-under, none-under}

-- the indices of a word
abbrev pub of_word : ℕ → ℕ × ℕ → List ℕ
of_word base e = bits_from (base + 64 * e.0) e.1

-- the indices of a chunk
abbrev pub of_chunk : ℕ × Chunk → List ℕ
of_chunk e = in_words (262144 * e.0) (entries_of (e.1).words)

module _ (chunks : Table Chunk) where
  abbrev pub holds : ℕ → Bool
  holds = holds_at (word_in chunks)

  -- an index of a chunk that is there has its bit in a word of it
  pub in-chunk : (c : ℕ) (chunk : Chunk) → value_at chunks c ≡ Some chunk → (j : ℕ) → j / 262144 ≡ c → holds j
      ≡ bit_is_set (or_zero (value_at chunk.words (j % 262144 / 64))) (j % 64)
  in-chunk c chunk is j row =
      let bit : j % 262144 % 64 ≡ j % 64 = omega arith in
      holds-under chunks j ∙ (ap (λ o. has_under o (j % 262144)) (ap (value_at chunks) row ∙ is)
      ∙ ap (λ b. bit_is_set (or_zero (value_at chunk.words (j % 262144 / 64))) b) bit)

  word-gives : (c : ℕ) (chunk : Chunk) → value_at chunks c ≡ Some chunk → (i : ℕ) → i < 4096 → (o : Option ℕ) → value_at chunk.words i ≡ o
      → given (of_word (262144 * c)) i o ≡ members holds (262144 * c + i * 64) 64
  word-gives c chunk is i low None none =
      sym (members-none holds (262144 * c + i * 64) 64 (λ j from below.
      let row : j / 262144 ≡ c = omega arith in
      let place : j % 262144 / 64 ≡ i = omega arith in
      let word : or_zero (value_at chunk.words (j % 262144 / 64)) ≡ 0 = ap (λ k. or_zero (value_at chunk.words k)) place ∙ ap or_zero none in
      in-chunk c chunk is j row ∙ (ap (λ w. bit_is_set w (j % 64)) word ∙ zero-is-clear 0 (j % 64) (bit_at-zero (j % 64)))))
  word-gives c chunk is i low (Some w) some =
      let start : 262144 * c + i * 64 ≡ 262144 * c + 64 * i = omega arith in
      rw start (members-same (λ j. bit_at w (j - (262144 * c + 64 * i)) == 1) holds (262144 * c + 64 * i) 64 (λ j from below.
      let row : j / 262144 ≡ c = omega arith in
      let place : j % 262144 / 64 ≡ i = omega arith in
      let bit : j - (262144 * c + 64 * i) ≡ j % 64 = omega arith in
      let word : or_zero (value_at chunk.words (j % 262144 / 64)) ≡ w = ap (λ k. or_zero (value_at chunk.words k)) place ∙ ap or_zero some in
      ap (λ b. bit_at w b == 1) bit ∙ sym (in-chunk c chunk is j row ∙ ap (λ v. bit_is_set v (j % 64)) word)))

  pub chunk-gives : (c : ℕ) (o : Option Chunk) → value_at chunks c ≡ o → given of_chunk c o ≡ members holds (0 + c * 262144) 262144
  chunk-gives c None none =
      sym (members-none holds (0 + c * 262144) 262144 (λ j from below.
      let row : j / 262144 ≡ c = omega arith in
      holds-under chunks j ∙ (ap (λ o. has_under o (j % 262144)) (ap (value_at chunks) row ∙ none) ∙ none-under (j % 262144))))
  chunk-gives c (Some chunk) is =
      let start : 0 + c * 262144 ≡ 262144 * c = omega arith in
      rw start (table-blocks chunk.words (of_word (262144 * c)) holds (262144 * c) 64 (λ i low. word-gives c chunk is i low (value_at chunk.words i) refl))

  pub members-are : members_of chunks ≡ members_below MAX_EID (holds_at (word_in chunks))
  unfolding members_of
  members-are = table-blocks chunks of_chunk holds 0 262144 (λ c low. chunk-gives c (value_at chunks c) refl)
