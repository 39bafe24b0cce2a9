-- The members of a set, after a chunk was written.
use Rattle.std.proofs.Common.{◌≡◌, ℕ, ◌+◌, ◌*◌, ◌/◌, ◌%◌, ◌^◌, ◌<◌, ◌≤◌, ◌==◌, ◌||◌, ◌&&◌, not, Bool, true, false, List, Option, Some, None, Result, Ok, Err, OnOk, OnErr, IfOk, refl, sym, ◌∙◌, ap, arith, inl, inr}
use Rattle.std.proofs.Math.Bool.{or-false}
use Rattle.std.specs.Prelude.{◌≢◌, if◌then◌else◌}
use Rattle.std.specs.Int.{bit_at}
use Rattle.std.proofs.lemmas.Bool.{cases_lt}
use Rattle.std.proofs.lemmas.Option.{none-some, same_Some}
use Rattle.std.proofs.lemmas.Nat.Bits.{bit_at-zero}
use Rattle.hibitset_base.specs.Decisions.{eq_other, eq_same, same_or_not}
use Rattle.hibitset_base.specs.Words.{holds_at}
use Rattle.hibitset_sparse.specs.Chunk.{chunk_word, has_in, or_zero}
use Rattle.hibitset_sparse.specs.Chunks.{AreFull, word_under, word_in}
use Rattle.hibitset_sparse.specs.Rank.{bit_is_set}
use Rattle.std.specs.Prelude.{option_and_then}
use Rattle.hibitset_sparse.specs.Layout.{value_by_group, value_of_place}
use Rattle.hibitset_sparse.specs.PackedArray.{value_in}
use Rattle.hibitset_sparse.specs.Table.{value_at, IsSameTable}
use Rattle.hibitset_sparse.specs.declared.group.Group.{Group}
use Rattle.hibitset_sparse.specs.declared.packed_array.PackedArray.{PackedArray}
use Rattle.hibitset_sparse.specs.declared.table.Table.{Table}
use Rattle.hibitset_sparse.specs.declared.chunk.Chunk.{Chunk}
use Rattle.hibitset_sparse.proofs.ChunkLemmas.{and-false, and-true, same-value}
use Rattle.hibitset_sparse.proofs.PackedArrayLemmas.{zero-is-clear}
use Rattle.hibitset_sparse.proofs.WordLemmas.{array-none, array-past}

-- the index is in the chunk, if there is one
abbrev pub has_under : Option Chunk → ℕ → Bool
has_under o r = bit_is_set (word_under o 0 (r / 64)) (r % 64)

pub holds-under : (chunks : Table Chunk) (j : ℕ) → holds_at (word_in chunks) j ≡ has_under (value_at chunks (j / 262144)) (j % 262144)
unfolding word_in
holds-under chunks j =
    let c : j / 64 / 4096 ≡ j / 262144 = omega arith in
    let w : j / 64 % 4096 ≡ j % 262144 / 64 = omega arith in
    let b : j % 64 ≡ j % 262144 % 64 = omega arith in
    rw (c, w, b) refl

pub none-under : (r : ℕ) → has_under None r ≡ false
none-under r = zero-is-clear 0 (r % 64) (bit_at-zero (r % 64))

same-under : (o p : Option Chunk) (r : ℕ) → p ≡ o → has_under p r ≡ has_under o r
same-under o p r e = ap (λ x. has_under x r) e

module _ (old new : ℕ → Option Chunk) (id : ℕ) (chunk : Chunk) (put : (c : ℕ) → c < 4096 → new c ≡ (if c == id / 262144 then Some chunk else old c)) (old_past : (c : ℕ) → 4096 ≤ c → old c ≡ None) (new_past : (c : ℕ) → 4096 ≤ c → new c ≡ None) where
  elsewhere : (j : ℕ) → j / 262144 ≢ id / 262144 → has_under (new (j / 262144)) (j % 262144) ≡ has_under (old (j / 262144)) (j % 262144)
  elsewhere j other = elim (cases_lt (j / 262144) 4096) [
    | inl low ↦
        let is : (if j / 262144 == id / 262144 then Some chunk else old (j / 262144)) ≡ old (j / 262144) = rw (eq_other (j / 262144) (id / 262144) other) refl in
        same-under (old (j / 262144)) (new (j / 262144)) (j % 262144) (put (j / 262144) low ∙ is)
    | inr past ↦ same-under (old (j / 262144)) (new (j / 262144)) (j % 262144) (new_past (j / 262144) past ∙ sym (old_past (j / 262144) past))
  ]

  pub at-chunk : id < 2 ^ 30 → new (id / 262144) ≡ Some chunk
  at-chunk within =
      let is : (if id / 262144 == id / 262144 then Some chunk else old (id / 262144)) ≡ Some chunk = rw (eq_same (id / 262144) (id / 262144) refl) refl in
      put (id / 262144) (omega arith) ∙ is

  -- the numbers that pass a test were added, all of this chunk
  pub set-added-by : (test : ℕ → Bool) → ((j : ℕ) → j / 262144 ≢ id / 262144 → test j ≡ false) → id < 2 ^ 30
      → ((r : ℕ) → r < 262144 → has_in chunk r ≡ (has_under (old (id / 262144)) r || test (262144 * (id / 262144) + r)))
      → (j : ℕ) → has_under (new (j / 262144)) (j % 262144) ≡ (has_under (old (j / 262144)) (j % 262144) || test j)
  set-added-by test none within added j = elim (same_or_not (j / 262144) (id / 262144)) [
    | inl here ↦
        let now : has_under (new (j / 262144)) (j % 262144) ≡ has_in chunk (j % 262144) = same-under (Some chunk) (new (j / 262144)) (j % 262144) (ap new here ∙ at-chunk within) in
        let was : has_under (old (id / 262144)) (j % 262144) ≡ has_under (old (j / 262144)) (j % 262144) = same-under (old (j / 262144)) (old (id / 262144)) (j % 262144) (ap old (sym here)) in
        let place : 262144 * (id / 262144) + j % 262144 ≡ j = omega (arith, here) in
        now ∙ (added (j % 262144) (omega arith) ∙ (ap (λ b. b || test (262144 * (id / 262144) + j % 262144)) was ∙ ap (λ i. has_under (old (j / 262144)) (j % 262144) || test i) place))
    | inr other ↦ elsewhere j other ∙ sym (ap (λ b. has_under (old (j / 262144)) (j % 262144) || b) (none j other) ∙ or-false (has_under (old (j / 262144)) (j % 262144)))
  ]

  -- the index was added
  pub set-added : id < 2 ^ 30 → ((r : ℕ) → r < 262144 → has_in chunk r ≡ (has_under (old (id / 262144)) r || r == id % 262144))
      → (j : ℕ) → has_under (new (j / 262144)) (j % 262144) ≡ (has_under (old (j / 262144)) (j % 262144) || j == id)
  set-added within added = set-added-by (λ j. j == id) (λ j other. eq_other j id (λ e. other (ap (λ x. x / 262144) e))) within
      (λ r low. added r low ∙ ap (λ b. has_under (old (id / 262144)) r || b) (same-rest r low))
    where
      same-rest : (r : ℕ) → r < 262144 → (r == id % 262144) ≡ (262144 * (id / 262144) + r == id)
      same-rest r low = elim (same_or_not r (id % 262144)) [
        | inl same ↦ eq_same r (id % 262144) same ∙ sym (eq_same (262144 * (id / 262144) + r) id (omega (arith, same)))
        | inr other ↦ eq_other r (id % 262144) other ∙ sym (eq_other (262144 * (id / 262144) + r) id (λ e. other (omega (arith, e, low))))
      ]

  -- the members are the same
  pub set-same : id < 2 ^ 30 → ((r : ℕ) → r < 262144 → has_in chunk r ≡ has_under (old (id / 262144)) r)
      → (j : ℕ) → has_under (new (j / 262144)) (j % 262144) ≡ has_under (old (j / 262144)) (j % 262144)
  set-same within same j = elim (same_or_not (j / 262144) (id / 262144)) [
    | inl here ↦
        let now : has_under (new (j / 262144)) (j % 262144) ≡ has_in chunk (j % 262144) = same-under (Some chunk) (new (j / 262144)) (j % 262144) (ap new here ∙ at-chunk within) in
        let was : has_under (old (id / 262144)) (j % 262144) ≡ has_under (old (j / 262144)) (j % 262144) = same-under (old (j / 262144)) (old (id / 262144)) (j % 262144) (ap old (sym here)) in
        now ∙ (same (j % 262144) (omega arith) ∙ was)
    | inr other ↦ elsewhere j other
  ]

  -- no chunk is empty
  pub full-put : 0 < chunk.words.groups.word → ((c : ℕ) (x : Chunk) → c < 4096 → old c ≡ Some x → 0 < x.words.groups.word) → (c : ℕ) (x : Chunk) → c < 4096 → new c ≡ Some x → 0 < x.words.groups.word
  full-put some full c x low is = elim (same_or_not c (id / 262144)) [
    | inl same ↦
        let here : (if c == id / 262144 then Some chunk else old c) ≡ Some chunk = rw (eq_same c (id / 262144) same) refl in
        let chunk-is : chunk ≡ x = same_Some chunk x (sym here ∙ (sym (put c low) ∙ is)) in
        let root : chunk.words.groups.word ≡ x.words.groups.word = ap (λ y. y.words.groups.word) chunk-is in
        omega (arith, root, some)
    | inr other ↦
        let here : (if c == id / 262144 then Some chunk else old c) ≡ old c = rw (eq_other c (id / 262144) other) refl in
        full c x low (sym here ∙ (sym (put c low) ∙ is))
  ]

pub root-kept : {A E : Type 0} (r : Result A E) (old new : Chunk) → OnOk r (0 < chunk_word new 2 0) → OnErr r ((l p : ℕ) → l < 3 → chunk_word new l p ≡ chunk_word old l p) → 0 < old.words.groups.word → 0 < new.words.groups.word
root-kept (Ok x) old new some same was = some
root-kept (Err e) old new some same was = let is = same 2 0 (omega arith) in omega (arith, is, was)

pub on_ok : {A E P Q : Type 0} (r : Result A E) → OnOk r P → (P → Q) → OnOk r Q
on_ok (Ok x) p f = f p
on_ok (Err e) p f = tt

pub on_err : {A E P Q : Type 0} (r : Result A E) → OnErr r P → (P → Q) → OnErr r Q
on_err (Ok x) p f = tt
on_err (Err e) p f = f p

pub on_err_always : {A E P : Type 0} (r : Result A E) → P → OnErr r P
on_err_always (Ok x) p = tt
on_err_always (Err e) p = p

pub if_ok : {A E : Type 0} {P Q : A → Type 0} (r : Result A E) → IfOk r P → ((x : A) → P x → Q x) → IfOk r Q
if_ok (Ok x) p f = f x p
if_ok (Err e) p f = tt

-- no place has a value past the end
pub place-past : {T : Type 0} (row : PackedArray Group) (xs : List T) (k : ℕ) → 4096 ≤ k → value_of_place (value_in row) xs k ≡ None
place-past row xs k past = ap (option_and_then (value_by_group xs (k % 64))) (array-past row (k / 64) (omega arith))

-- no chunk is empty, after one was put in or not
pub full-insert : {A E : Type 0} (r : Result A E) (old new : Table Chunk) (id : ℕ) (chunk : Chunk)
    → OnOk r ((c : ℕ) → c < 4096 → value_at new c ≡ (if c == id / 262144 then Some chunk else value_at old c)) → OnErr r (IsSameTable old new)
    → 0 < chunk.words.groups.word → AreFull old → AreFull new
full-insert (Ok x) old new id chunk put same some full = full-put (value_at old) (value_at new) id chunk put (place-past old.groups old.items.items) (place-past new.groups new.items.items) some full
full-insert (Err e) old new id chunk put same some full = λ c x low is. full c x low (sym (same-value old new same c) ∙ is)

-- the index was taken out, where its chunk is x then
pub set-removed : (old new : ℕ → Option Chunk) (id : ℕ) (x : Option Chunk) → ((c : ℕ) → c < 4096 → new c ≡ (if c == id / 262144 then x else old c)) → ((c : ℕ) → 4096 ≤ c → old c ≡ None) → ((c : ℕ) → 4096 ≤ c → new c ≡ None)
    → id < 2 ^ 30 → ((r : ℕ) → r < 262144 → has_under x r ≡ (has_under (old (id / 262144)) r && not (r == id % 262144)))
    → (j : ℕ) → has_under (new (j / 262144)) (j % 262144) ≡ (has_under (old (j / 262144)) (j % 262144) && not (j == id))
set-removed old new id x put old_past new_past within removed j = elim (same_or_not (j / 262144) (id / 262144)) [
  | inl here ↦
      let is : (if j / 262144 == id / 262144 then x else old (j / 262144)) ≡ x = rw (eq_same (j / 262144) (id / 262144) here) refl in
      let now : has_under (new (j / 262144)) (j % 262144) ≡ has_under x (j % 262144) = same-under x (new (j / 262144)) (j % 262144) (put (j / 262144) (omega (arith, here, within)) ∙ is) in
      let was : has_under (old (id / 262144)) (j % 262144) ≡ has_under (old (j / 262144)) (j % 262144) = same-under (old (j / 262144)) (old (id / 262144)) (j % 262144) (ap old (sym here)) in
      let same : (j % 262144 == id % 262144) ≡ (j == id) = same-rest j here in
      now ∙ (removed (j % 262144) (omega arith) ∙ (ap (λ b. b && not (j % 262144 == id % 262144)) was ∙ ap (λ b. has_under (old (j / 262144)) (j % 262144) && not b) same))
  | inr other ↦
      let apart : (j == id) ≡ false = eq_other j id (λ e. other (ap (λ k. k / 262144) e)) in
      elsewhere j other ∙ sym (ap (λ b. has_under (old (j / 262144)) (j % 262144) && not b) apart ∙ and-true (has_under (old (j / 262144)) (j % 262144)))
]
  where
    same-rest : (j : ℕ) → j / 262144 ≡ id / 262144 → (j % 262144 == id % 262144) ≡ (j == id)
    same-rest j here = elim (same_or_not j id) [
      | inl same ↦ eq_same (j % 262144) (id % 262144) (ap (λ k. k % 262144) same) ∙ sym (eq_same j id same)
      | inr other ↦ eq_other (j % 262144) (id % 262144) (λ rest. other (omega (arith, here, rest))) ∙ sym (eq_other j id other)
    ]

    elsewhere : (j : ℕ) → j / 262144 ≢ id / 262144 → has_under (new (j / 262144)) (j % 262144) ≡ has_under (old (j / 262144)) (j % 262144)
    elsewhere j other = elim (cases_lt (j / 262144) 4096) [
      | inl low ↦
          let is : (if j / 262144 == id / 262144 then x else old (j / 262144)) ≡ old (j / 262144) = rw (eq_other (j / 262144) (id / 262144) other) refl in
          same-under (old (j / 262144)) (new (j / 262144)) (j % 262144) (put (j / 262144) low ∙ is)
      | inr past ↦ same-under (old (j / 262144)) (new (j / 262144)) (j % 262144) (new_past (j / 262144) past ∙ sym (old_past (j / 262144) past))
    ]

-- one that was not there is not taken out
pub none-removed : (p : ℕ → Bool) (id : ℕ) → p id ≡ false → (i : ℕ) → p i ≡ (p i && not (i == id))
none-removed p id none i = elim (same_or_not i id) [
  | inl same ↦ rw (eq_same i id same, and-false (p i)) (ap p same ∙ none)
  | inr other ↦ rw (eq_other i id other, and-true (p i)) refl
]

-- a chunk whose root is 0 has no members
pub root-none : (chunk : Chunk) → chunk.words.groups.word ≡ 0 → (r : ℕ) → has_in chunk r ≡ false
root-none chunk none r =
    let bit : bit_at chunk.words.groups.word (r / 64 / 64) ≡ 0 = ap (λ w. bit_at w (r / 64 / 64)) none ∙ bit_at-zero (r / 64 / 64) in
    let value : value_at chunk.words (r / 64) ≡ None = ap (option_and_then (value_by_group chunk.words.items.items (r / 64 % 64))) (array-none chunk.words.groups (r / 64 / 64) bit) in
    ap (λ o. bit_is_set (or_zero o) (r % 64)) value ∙ zero-is-clear 0 (r % 64) (bit_at-zero (r % 64))

-- no chunk is empty, after one was taken out
pub full-removed : (old new : ℕ → Option Chunk) (d : ℕ) → ((c : ℕ) → c < 4096 → new c ≡ (if c == d then None else old c))
    → ((c : ℕ) (x : Chunk) → c < 4096 → c ≢ d → old c ≡ Some x → 0 < x.words.groups.word) → (c : ℕ) (x : Chunk) → c < 4096 → new c ≡ Some x → 0 < x.words.groups.word
full-removed old new d put full c x low is = elim (same_or_not c d) [
  | inl same ↦
      let none : new c ≡ None = put c low ∙ (let yes : (c == d) ≡ true = eq_same c d same in rw yes refl) in
      absurd (none-some x (sym none ∙ is))
  | inr other ↦
      let there : new c ≡ old c = put c low ∙ (let no : (c == d) ≡ false = eq_other c d other in rw no refl) in
      full c x low other (sym there ∙ is)
]
