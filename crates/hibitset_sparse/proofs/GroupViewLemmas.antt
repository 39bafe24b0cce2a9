-- The words of one group, as those of a set of its own.
use Rattle.std.proofs.Common.{◌≡◌, ℕ, suc, ◌+◌, ◌*◌, ◌/◌, ◌%◌, ◌<◌, ◌≤◌, true, false, nat_lt, List, length, Option, Some, refl, sym, ◌∙◌, ap, arith, inl, inr}
use Rattle.std.specs.Int.{bit_at}
use Rattle.std.specs.Prelude.{if◌then◌else◌, option_and_then}
use Rattle.std.specs.Int.RustNames.{count_ones}
use Rattle.std.specs.List.{slice_get}
use Rattle.hibitset_sparse.specs.Decisions.{lt_no, lt_yes}
use Rattle.hibitset_sparse.specs.Chunk.{or_zero}
use Rattle.hibitset_sparse.specs.Layout.{word_or_none, AreLaidOut, value_by_group, value_of_place}
use Rattle.hibitset_sparse.specs.Parts.{item_from}
use Rattle.hibitset_sparse.specs.Rank.{bit_is_set, rank_in}
use Rattle.std.proofs.lemmas.Bool.{cases_Bool, cases_lt}
use Rattle.std.proofs.lemmas.Option.{slice_get_past}
use Rattle.hibitset_sparse.proofs.PackedArrayLemmas.{value-on, value-off, zero-is-clear}
use Rattle.hibitset_sparse.specs.GroupView.{view_has, view_word}
use Rattle.hibitset_sparse.specs.declared.group_view.GroupView.{GroupView}
use Rattle.hibitset_sparse.specs.declared.group.Group.{Group}
use Rattle.hibitset_sparse.proofs.LayoutLemmas.{before-more, before-upto}

-- the values of a group lie within the list
pub group-ends : (group : ℕ → Option Group) (n q : ℕ) (g : Group) → AreLaidOut group n → q < 64 → group q ≡ Some g → g.start + count_ones g.word ≤ n
group-ends group n q g laid small is =
    let starts = laid.starts q g small is in
    let step = before-more group q in
    let ones : count_ones (word_or_none (group q)) ≡ count_ones g.word = ap (λ o. count_ones (word_or_none o)) is in
    let rest = before-upto group (suc q) 64 (omega arith) in
    let all = laid.all in
    omega (arith, starts, step, ones, rest, all)

module _ (group : ℕ → Option Group) (xs ys : List ℕ) (q i : ℕ) (low : i < 4096) (same : ys ≡ xs) where
  of-group : (o : Option Group) → group q ≡ o → value_of_place group xs ((4096 * q + i) / 64) ≡ option_and_then (value_by_group xs (i / 64)) o
  of-group o is =
      let row : (4096 * q + i) / 64 / 64 ≡ q = omega (arith, low) in
      let bit : (4096 * q + i) / 64 % 64 ≡ i / 64 = omega (arith, low) in
      ap (λ b. option_and_then (value_by_group xs b) (group ((4096 * q + i) / 64 / 64))) bit
      ∙ (ap (λ r. option_and_then (value_by_group xs (i / 64)) (group r)) row ∙ ap (option_and_then (value_by_group xs (i / 64))) is)

  last-bit : (4096 * q + i) % 64 ≡ i % 64
  last-bit = omega (arith, low)

-- What reading a word by its bit gives.
module _ (items : List ℕ) (start word i : ℕ) where
  pub read-on : (w : ℕ) → i < 64 → bit_is_set word i ≡ true → slice_get items (start + rank_in word i) ≡ Some w
      → w ≡ (if nat_lt i 64 then or_zero (item_from items start word i) else 0)
  read-on w small on found = let yes : nat_lt i 64 ≡ true = lt_yes i 64 small in rw yes
      (sym (ap or_zero (value-on (λ k. slice_get items (start + k)) word i on ∙ found)))

  pub read-off : i < 64 → bit_is_set word i ≡ false → 0 ≡ (if nat_lt i 64 then or_zero (item_from items start word i) else 0)
  read-off small off = let yes : nat_lt i 64 ≡ true = lt_yes i 64 small in rw yes (sym (ap or_zero (value-off (λ k. slice_get items (start + k)) word i off)))

  pub read-past : i < 64 → length items ≤ start + rank_in word i → 0 ≡ (if nat_lt i 64 then or_zero (item_from items start word i) else 0)
  read-past small past = elim (cases_Bool (bit_is_set word i)) [
    | inl on ↦
        let yes : nat_lt i 64 ≡ true = lt_yes i 64 small in
        rw yes (sym (ap or_zero (value-on (λ k. slice_get items (start + k)) word i on ∙ slice_get_past items (start + rank_in word i) past)))
    | inr off ↦ read-off small off
  ]

-- the word of a bit that is clear is 0
pub view-clear : (view : GroupView) (b : ℕ) → bit_at view.word b ≡ 0 → view_word view 0 b ≡ 0
view-clear view b off = elim (cases_lt b 64) [
  | inl small ↦ sym (read-off view.items.now view.start view.word b small (zero-is-clear view.word b off))
  | inr past ↦ (let no : nat_lt b 64 ≡ false = lt_no b 64 past in rw no refl)
]

-- the members of a word
pub view-bits : (view : GroupView) (p b : ℕ) → p < 64 → b < 64 → bit_is_set (view_word view 0 p) b ≡ view_has view (64 * p + b)
view-bits view p b low small =
    let row : (64 * p + b) / 64 ≡ p = omega (arith, small) in
    let bit : (64 * p + b) % 64 ≡ b = omega (arith, small) in
    rw (row, bit) refl
