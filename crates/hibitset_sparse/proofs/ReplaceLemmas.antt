-- A set's chunks and members, after a chunk was put in, written over or taken out.
use Rattle.std.proofs.Common.{◌≡◌, ℕ, ◌/◌, ◌%◌, ◌^◌, ◌<◌, ◌≤◌, ◌==◌, Bool, true, false, Option, Some, None, Result, Ok, Err, OnOk, refl, sym, ◌∙◌, ap, arith, inl, inr}
use Rattle.std.specs.Prelude.{◌≢◌, ◌⊎◌, if◌then◌else◌, IsOk}
use Rattle.std.proofs.lemmas.Bool.{false≢true}
use Rattle.std.proofs.lemmas.Option.{none-some, same_Some}
use Rattle.hibitset_base.specs.Decisions.{eq_other, eq_same, same_or_not}
use Rattle.hibitset_base.specs.Words.{holds_at}
use Rattle.hibitset_sparse.specs.Chunk.{chunk_word, has_in}
use Rattle.hibitset_sparse.specs.Chunks.{AreFull, word_in}
use Rattle.hibitset_sparse.specs.Replacement.{CanTakePlace, has_in_or}
use Rattle.hibitset_sparse.specs.Table.{HasCapacityFor, HasValue, value_at}
use Rattle.hibitset_sparse.specs.declared.chunk.Chunk.{Chunk}
use Rattle.hibitset_sparse.specs.declared.table.Table.{Table}
use Rattle.hibitset_sparse.proofs.SetLemmas.{has_under, holds-under}

-- Place c has the value x, if there is one, and each other place what it had.
abbrev pub IsPut : {T : Type 0} → Table T → Table T → ℕ → Option T → Type 0
IsPut old new c x = (d : ℕ) → d < 4096 → value_at new d ≡ (if d == c then x else value_at old d)

module _ (old new : Table Chunk) (c : ℕ) (x : Option Chunk) (put : IsPut old new c x) where
  -- the chunk that was put in is there
  pub put-here : c < 4096 → value_at new c ≡ x
  put-here low = put c low ∙ (let yes : (c == c) ≡ true = eq_same c c refl in rw yes refl)

  -- and each other stays
  pub put-other : (d : ℕ) → d < 4096 → d ≢ c → value_at new d ≡ value_at old d
  put-other d low other = put d low ∙ (let no : (d == c) ≡ false = eq_other d c other in rw no refl)

  -- the members
  pub put-members : (i : ℕ) → i < 2 ^ 30
      → holds_at (word_in new) i ≡ (if i / 262144 == c then has_under x (i % 262144) else holds_at (word_in old) i)
  put-members i low = elim (same_or_not (i / 262144) c) [
    | inl same ↦
        let yes : (i / 262144 == c) ≡ true = eq_same (i / 262144) c same in
        let here : value_at new (i / 262144) ≡ x = put (i / 262144) (omega (arith, low)) ∙ rw yes refl in
        rw yes (holds-under new i ∙ ap (λ o. has_under o (i % 262144)) here)
    | inr other ↦
        let no : (i / 262144 == c) ≡ false = eq_other (i / 262144) c other in
        let there = put-other (i / 262144) (omega (arith, low)) other in
        rw no (holds-under new i ∙ (ap (λ o. has_under o (i % 262144)) there ∙ sym (holds-under old i)))
  ]

  -- no chunk is empty
  pub put-full : ((chunk : Chunk) → x ≡ Some chunk → 0 < chunk.words.groups.word) → AreFull old → AreFull new
  put-full some full d chunk low is = elim (same_or_not d c) [
    | inl same ↦
        let yes : (d == c) ≡ true = eq_same d c same in
        some chunk (sym (put d low ∙ rw yes refl) ∙ is)
    | inr other ↦ full d chunk low (sym (put-other d low other) ∙ is)
  ]

-- where a chunk is the one that was put in, it is not empty
pub same-root : (chunk other : Chunk) → 0 < chunk.words.groups.word → Some chunk ≡ Some other → 0 < other.words.groups.word
same-root chunk other some is = let root : chunk.words.groups.word ≡ other.words.groups.word = ap (λ y. y.words.groups.word) (same_Some chunk other is) in omega (arith, root, some)

-- capacity for more is capacity for fewer
pub capacity-fewer : {T : Type 0} (m n : ℕ) (table : Table T) → m ≤ n → HasCapacityFor n table → HasCapacityFor m table
capacity-fewer m n table fewer has = record {
  items = let i = has.items in omega (arith, i, fewer);
  groups = elim has.groups [ inl g ↦ inl (omega (arith, g, fewer)) | inr all ↦ inr all ];
}

-- what is so of a value that is there
pub when_ok : {A E P : Type 0} (r : Result A E) → IsOk r → OnOk r P → P
when_ok (Ok x) ok p = p
when_ok (Err e) ok p = absurd (false≢true ok)

-- Some of these chunks have taken the place of a set's own, and those that are left can.
pub record AreBeingPut (chunks left own : Table Chunk) (before now : ℕ → Bool) : Type 0 where
  pub some : (c : ℕ) → c < 4096 → (value_at left c ≡ None) ⊎ (value_at left c ≡ value_at chunks c)
  pub put : (i : ℕ) → i < 2 ^ 30 → value_at left (i / 262144) ≡ None → now i ≡ has_in_or (value_at chunks (i / 262144)) i (before i)
  pub unput : (i : ℕ) (chunk : Chunk) → i < 2 ^ 30 → value_at left (i / 262144) ≡ Some chunk → now i ≡ before i
  pub fits : CanTakePlace own left

module _ (chunks left next own after : Table Chunk) (before now new : ℕ → Bool) (c : ℕ) (chunk : Chunk)
    (is : AreBeingPut chunks left own before now) (low : c < 4096) (was : value_at left c ≡ Some chunk) (taken : IsPut left next c None) where
  -- the next one can be put in
  pub next-fits : 0 < chunk_word chunk 2 0 → HasValue own c
  next-fits some = is.fits c chunk low was some

  in-chunks : value_at chunks c ≡ Some chunk
  in-chunks = elim (is.some c low) [
    | inl none ↦ absurd (none-some chunk (sym none ∙ was))
    | inr same ↦ sym same ∙ was
  ]

  -- it has been put in
  pub one-put : ((i : ℕ) → i < 2 ^ 30 → new i ≡ (if i / 262144 == c then has_in chunk (i % 262144) else now i))
      → ((d : ℕ) → d < 4096 → d ≢ c → value_at after d ≡ value_at own d)
      → AreBeingPut chunks next after before new
  one-put members others = record {
    some = λ d small. elim (same_or_not d c) [
      | inl same ↦ inl (ap (value_at next) same ∙ put-here left next c None taken low)
      | inr other ↦ elim (is.some d small) [
        | inl none ↦ inl (put-other left next c None taken d small other ∙ none)
        | inr same ↦ inr (put-other left next c None taken d small other ∙ same)
      ]
    ];
    put = λ i small none. elim (same_or_not (i / 262144) c) [
      | inl same ↦
          let here : (if i / 262144 == c then has_in chunk (i % 262144) else now i) ≡ has_in chunk (i % 262144) = rw (eq_same (i / 262144) c same) refl in
          let found : value_at chunks (i / 262144) ≡ Some chunk = ap (value_at chunks) same ∙ in-chunks in
          members i small ∙ (here ∙ sym (ap (λ o. has_in_or o i (before i)) found))
      | inr other ↦
          let there : (if i / 262144 == c then has_in chunk (i % 262144) else now i) ≡ now i = rw (eq_other (i / 262144) c other) refl in
          members i small ∙ (there ∙ is.put i small (sym (put-other left next c None taken (i / 262144) (omega (arith, small)) other) ∙ none))
    ];
    unput = λ i x small some. elim (same_or_not (i / 262144) c) [
      | inl same ↦ absurd (none-some x (sym (put-here left next c None taken low) ∙ (ap (value_at next) (sym same) ∙ some)))
      | inr other ↦
          let there : (if i / 262144 == c then has_in chunk (i % 262144) else now i) ≡ now i = rw (eq_other (i / 262144) c other) refl in
          members i small ∙ (there ∙ is.unput i x small (sym (put-other left next c None taken (i / 262144) (omega (arith, small)) other) ∙ some))
    ];
    fits = λ d x small some full. elim (same_or_not d c) [
      | inl same ↦ absurd (none-some x (sym (put-here left next c None taken low) ∙ (ap (value_at next) (sym same) ∙ some)))
      | inr other ↦
          let own-chunk = is.fits d x small (sym (put-other left next c None taken d small other) ∙ some) full in
          (own-chunk.0, others d small other ∙ own-chunk.1)
    ];
  }

-- all have, where none is left
pub all-put : (chunks left own : Table Chunk) (before now : ℕ → Bool) → AreBeingPut chunks left own before now → ((c : ℕ) → c < 4096 → value_at left c ≡ None)
    → (i : ℕ) → i < 2 ^ 30 → now i ≡ has_in_or (value_at chunks (i / 262144)) i (before i)
all-put chunks left own before now is none i low = is.put i low (none (i / 262144) (omega (arith, low)))
