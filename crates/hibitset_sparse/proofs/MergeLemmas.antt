-- Two chunks put together, group by group.
use Rattle.std.proofs.Common.{◌≡◌, ℕ, suc, ◌+◌, ◌*◌, ◌/◌, ◌%◌, ◌<◌, ◌≤◌, Bool, false, length, Option, None, Some, sym, ◌∙◌, ap, arith}
use Rattle.std.specs.Prelude.{option_and_then}
use Rattle.std.specs.Int.{bit_at}
use Rattle.std.specs.Int.RustNames.{count_ones}
use Rattle.std.proofs.lemmas.Nat.Bits.{bit_at-zero}
use Rattle.hibitset_base.specs.Words.{holds_at}
use Rattle.hibitset_sparse.specs.Chunk.{has_in, or_zero}
use Rattle.hibitset_sparse.specs.Chunks.{word_in}
use Rattle.hibitset_sparse.specs.Layout.{value_by_group, values_before}
use Rattle.hibitset_sparse.specs.Merge.{CoversTest, IsWordOf}
use Rattle.hibitset_sparse.specs.Rank.{bit_is_set}
use Rattle.hibitset_sparse.specs.PackedArray.{value_in}
use Rattle.hibitset_sparse.specs.Table.{group_word, value_at}
use Rattle.hibitset_sparse.specs.declared.chunk.Chunk.{Chunk}
use Rattle.hibitset_sparse.specs.declared.table.Table.{Table}
use Rattle.hibitset_sparse.proofs.AppendLemmas.{TakesLowest, left-above}
use Rattle.hibitset_sparse.proofs.LayoutLemmas.{before-more, before-upto}
use Rattle.hibitset_sparse.proofs.PackedArrayLemmas.{zero-is-clear}
use Rattle.hibitset_sparse.proofs.SetLemmas.{has_under, holds-under, none-under}
use Rattle.hibitset_sparse.proofs.WordLemmas.{array-none}

-- a chunk has no index under a clear bit of its root
pub root-clear : (chunk : Chunk) (p b : ℕ) → b < 64 → bit_at chunk.words.groups.word (p / 64) ≡ 0 → has_in chunk (64 * p + b) ≡ false
root-clear chunk p b few off =
    let row : (64 * p + b) / 64 ≡ p = omega (arith, few) in
    let none : value_at chunk.words p ≡ None = ap (option_and_then (value_by_group chunk.words.items.items (p % 64))) (array-none chunk.words.groups (p / 64) off) in
    let value : value_at chunk.words ((64 * p + b) / 64) ≡ None = ap (value_at chunk.words) row ∙ none in
    ap (λ o. bit_is_set (or_zero o) ((64 * p + b) % 64)) value ∙ zero-is-clear 0 ((64 * p + b) % 64) (bit_at-zero ((64 * p + b) % 64))

module _ (test : Bool → Bool → Bool) (own other : Chunk) where
  -- where no group is made nothing is
  pub word-skipped : (x y left p : ℕ) → x ≡ own.words.groups.word → y ≡ other.words.groups.word → CoversTest test x y left → p < 4096
      → bit_at left (p / 64) ≡ 0
      → IsWordOf test (has_in own) (has_in other) (64 * p) 0
  word-skipped x y left p x-is y-is covers low off b few =
      zero-is-clear 0 b (bit_at-zero b)
      ∙ sym (covers (p / 64) (has_in own (64 * p + b)) (has_in other (64 * p + b)) (omega (arith, low)) off
      (λ clear. root-clear own p b few (ap (λ w. bit_at w (p / 64)) (sym x-is) ∙ clear))
      (λ clear. root-clear other p b few (ap (λ w. bit_at w (p / 64)) (sym y-is) ∙ clear)))

  -- a word of a group is one of the chunk
  pub word-of-group : (view_own view_other : ℕ → Bool) (q p w : ℕ) → p / 64 ≡ q → ((i : ℕ) → i < 4096 → view_own i ≡ has_in own (4096 * q + i))
      → ((i : ℕ) → i < 4096 → view_other i ≡ has_in other (4096 * q + i))
      → IsWordOf test view_own view_other (64 * (p % 64)) w → IsWordOf test (has_in own) (has_in other) (64 * p) w
  word-of-group view_own view_other q p w here is_own is_other is b few =
      let place : 4096 * q + (64 * (p % 64) + b) ≡ 64 * p + b = omega (arith, here) in
      let low : 64 * (p % 64) + b < 4096 = omega (arith, few) in
      is b few
      ∙ (ap (λ x. test x (view_other (64 * (p % 64) + b))) (is_own (64 * (p % 64) + b) low ∙ ap (has_in own) place)
      ∙ ap (test (has_in own (64 * p + b))) (is_other (64 * (p % 64) + b) low ∙ ap (has_in other) place))

-- the members of a set in one of its chunks
module _ (chunks : Table Chunk) (c i : ℕ) (low : i < 262144) where
  in-place : (o : Option Chunk) → value_at chunks c ≡ o → holds_at (word_in chunks) (262144 * c + i) ≡ has_under o i
  in-place o is =
      let place : (262144 * c + i) / 262144 ≡ c = omega (arith, low) in
      let rest : (262144 * c + i) % 262144 ≡ i = omega (arith, low) in
      holds-under chunks (262144 * c + i)
      ∙ (ap (λ k. has_under (value_at chunks k) ((262144 * c + i) % 262144)) place ∙ (ap (λ x. has_under x ((262144 * c + i) % 262144)) is ∙ ap (has_under o) rest))

  pub in-chunk : (chunk : Chunk) → value_at chunks c ≡ Some chunk → has_in chunk i ≡ holds_at (word_in chunks) (262144 * c + i)
  in-chunk chunk is = sym (in-place (Some chunk) is)

  pub in-none : value_at chunks c ≡ None → false ≡ holds_at (word_in chunks) (262144 * c + i)
  in-none is = sym (in-place None is ∙ none-under i)
