-- The summaries of a set are exact.
use Rattle.std.proofs.Common.{◌≡◌, ℕ, zero, suc, ◌+◌, ◌*◌, ◌/◌, ◌%◌, ◌^◌, ◌<◌, ◌≤◌, ◌==◌, ◌↔◌, true, false, length, Option, Some, None, refl, sym, ◌∙◌, ap, arith, inl, inr}
use Rattle.std.specs.Prelude.{if◌then◌else◌}
use Rattle.std.specs.Int.{bit_at}
use Rattle.std.proofs.lemmas.Bool.{cases_lt, false≢true}
use Rattle.std.proofs.lemmas.Nat.Bits.{bit_at-zero}
use Rattle.std.proofs.lemmas.Option.{none-some}
use Rattle.hibitset_base.specs.Decisions.{eq_other, eq_same, same_or_not}
use Rattle.hibitset_base.specs.Words.{SummariesExactEverywhere, holds_at}
use Rattle.hibitset_base.specs.declared.util.TheConstants.{LAYERS}
use Rattle.hibitset_sparse.specs.Table.{value_at, group_word, AreNonzero}
use Rattle.hibitset_sparse.specs.Chunk.{or_zero}
use Rattle.hibitset_sparse.specs.Rank.{bit_is_set}
use Rattle.hibitset_sparse.specs.PackedArray.{value_in}
use Rattle.hibitset_sparse.specs.Chunks.{AreFull, word_under, word_in}
use Rattle.hibitset_sparse.specs.declared.table.Table.{Table}
use Rattle.hibitset_sparse.specs.declared.chunk.Chunk.{Chunk}
use Rattle.hibitset_sparse.proofs.LayoutLemmas.{word-fits}
use Rattle.hibitset_sparse.proofs.PackedArrayLemmas.{zero-is-clear}
use Rattle.hibitset_sparse.proofs.WordLemmas.{bit_cases, group-on, group-off, group-past, root-bit}

module _ {T : Type 0} where
  -- a place of a table, by its group
  place-on : (table : Table T) (q b : ℕ) → q < 64 → b < 64 → bit_at (group_word table q) b ≡ 1 → (x : T) × (value_at table (64 * q + b) ≡ Some x)
  place-on table q b group small on =
      let row : (64 * q + b) / 64 ≡ q = omega arith in
      let bit : (64 * q + b) % 64 ≡ b = omega arith in
      let found = group-on table q b group on in
      (found.0, rw (row, bit) found.1)

  place-off : (table : Table T) (q b : ℕ) → b < 64 → bit_at (group_word table q) b ≡ 0 → value_at table (64 * q + b) ≡ None
  place-off table q b small off =
      let row : (64 * q + b) / 64 ≡ q = omega arith in
      let bit : (64 * q + b) % 64 ≡ b = omega arith in
      rw (row, bit) (group-off table q b off)

  -- no place has a value past the end
  pub value-past : (table : Table T) (i : ℕ) → 4096 ≤ i → value_at table i ≡ None
  value-past table i past =
      let whole : 64 * (i / 64) + i % 64 ≡ i = omega arith in
      let zero_word : bit_at (group_word table (i / 64)) (i % 64) ≡ 0 = ap (λ w. bit_at w (i % 64)) (group-past table (i / 64) (omega arith)) ∙ bit_at-zero (i % 64) in
      rw whole at (place-off table (i / 64) (i % 64) (omega arith) zero_word)

-- a bit tells that a number is not 0, where it is so if it is set and 0 if it is clear
tells : (w b n : ℕ) → (bit_at w b ≡ 1 → 0 < n) → (bit_at w b ≡ 0 → n ≡ 0) → (bit_at w b ≡ 1) ↔ (0 < n)
tells w b n some none = (
  some,
  λ above. elim (bit_cases w b) [
    | inl on ↦ on
    | inr off ↦ absurd (let z = none off in omega (arith, z, above))
  ],
)

-- where a chunk's words of layer 0 are 0
words-tell : (words : Table ℕ) → AreNonzero words → (q b : ℕ) → q < 64 → b < 64 → (bit_at (group_word words q) b ≡ 1) ↔ (0 < or_zero (value_at words (64 * q + b)))
words-tell words nonzero q b group small = tells (group_word words q) b (or_zero (value_at words (64 * q + b)))
    (λ on.
    let found = place-on words q b group small on in
    let some = (nonzero (64 * q + b) found.0 (omega arith) found.1).0 in
    let is : or_zero (value_at words (64 * q + b)) ≡ found.0 = ap or_zero found.1 in
    omega (arith, some, is))
    (λ off. ap or_zero (place-off words q b small off))

under-none : (w b : ℕ) → w ≡ 0 → (n : ℕ) → n ≡ 0 → (bit_at w b ≡ 1) ↔ (0 < n)
under-none w b none n zero_n = tells w b n (λ on. absurd (let off : bit_at w b ≡ 0 = ap (λ x. bit_at x b) none ∙ bit_at-zero b in omega (arith, on, off))) (λ off. zero_n)

layer0 : (o : Option Chunk) (q b : ℕ) → q < 64 → b < 64 → (bit_at (word_under o 1 q) b ≡ 1) ↔ (0 < word_under o 0 (64 * q + b))
layer0 None q b group small = under-none 0 b refl 0 refl
layer0 (Some chunk) q b group small = words-tell chunk.words chunk.nonzero q b group small

layer1 : (o : Option Chunk) (b : ℕ) → b < 64 → (bit_at (word_under o 2 0) b ≡ 1) ↔ (0 < word_under o 1 b)
layer1 None b small = under-none 0 b refl 0 refl
layer1 (Some chunk) b small = root-bit chunk.words b small

layer2 : (chunks : Table Chunk) → AreFull chunks → (p b : ℕ) → b < 64 → (bit_at (group_word chunks p) b ≡ 1) ↔ (0 < word_under (value_at chunks (64 * p + b)) 2 0)
layer2 chunks full p b small = elim (cases_lt p 64) [
  | inl group ↦ tells (group_word chunks p) b (word_under (value_at chunks (64 * p + b)) 2 0)
      (λ on.
      let found = place-on chunks p b group small on in
      let some = full (64 * p + b) found.0 (omega arith) found.1 in
      let is : word_under (value_at chunks (64 * p + b)) 2 0 ≡ (found.0).words.groups.word = ap (λ o. word_under o 2 0) found.1 in
      omega (arith, some, is))
      (λ off. ap (λ o. word_under o 2 0) (place-off chunks p b small off))
  | inr past ↦ under-none (group_word chunks p) b (group-past chunks p past) (word_under (value_at chunks (64 * p + b)) 2 0) (ap (λ o. word_under o 2 0) (value-past chunks (64 * p + b) (omega arith)))
]

layer3 : (chunks : Table Chunk) (p b : ℕ) → b < 64 → (bit_at (if p == 0 then chunks.groups.word else 0) b ≡ 1) ↔ (0 < group_word chunks (64 * p + b))
layer3 chunks p b small = elim (same_or_not p 0) [
  | inl top ↦
      let first : 64 * p + b ≡ b = omega (arith, top) in
      rw (eq_same p 0 top, first) (root-bit chunks b small)
  | inr other ↦
      let some : 0 < p = omega (arith, other) in
      rw (eq_other p 0 other) (under-none 0 b refl (group_word chunks (64 * p + b)) (group-past chunks (64 * p + b) (omega (arith, some))))
]

by-layer : (chunks : Table Chunk) → AreFull chunks → (l p b : ℕ) → l + 1 < 5 → b < 64 → (bit_at (word_in chunks (l + 1) p) b ≡ 1) ↔ (0 < word_in chunks l (64 * p + b))
unfolding word_in
by-layer chunks full zero p b below small =
    let row : (64 * p + b) / 4096 ≡ p / 64 = omega arith in
    let rest : (64 * p + b) % 4096 ≡ 64 * (p % 64) + b = omega arith in
    rw (row, rest) (layer0 (value_at chunks (p / 64)) (p % 64) b (omega arith) small)
by-layer chunks full (suc zero) p b below small =
    let row : (64 * p + b) / 64 ≡ p = omega arith in
    let rest : (64 * p + b) % 64 ≡ b = omega arith in
    rw (row, rest) (layer1 (value_at chunks p) b small)
by-layer chunks full (suc (suc zero)) p b below small = layer2 chunks full p b small
by-layer chunks full (suc (suc (suc zero))) p b below small = layer3 chunks p b small
by-layer chunks full (suc (suc (suc (suc l)))) p b below small = absurd (omega arith)

-- if no chunk is empty, the summaries of the words are exact
pub full-summed : (chunks : Table Chunk) → AreFull chunks → SummariesExactEverywhere LAYERS (word_in chunks)
full-summed chunks full = record { summed = λ l p b below small. by-layer chunks full l p b below small }

-- a set without chunks has no members
pub none-full : (chunks : Table Chunk) → ((c : ℕ) → value_at chunks c ≡ None) → AreFull chunks
none-full chunks none c chunk low some = absurd (none-some chunk (sym (none c) ∙ some))

pub none-holds : (chunks : Table Chunk) → ((c : ℕ) → value_at chunks c ≡ None) → (i : ℕ) → holds_at (word_in chunks) i ≡ false
unfolding word_in
none-holds chunks none i =
    let word : word_under (value_at chunks (i / 64 / 4096)) 0 (i / 64 % 4096) ≡ 0 = ap (λ o. word_under o 0 (i / 64 % 4096)) (none (i / 64 / 4096)) in
    rw word (zero-is-clear 0 (i % 64) (bit_at-zero (i % 64)))

-- each word of a chunk is one
word-bound : (o : Option ℕ) → ((w : ℕ) → o ≡ Some w → w < 2 ^ 64) → or_zero o < 2 ^ 64
word-bound None fits = omega arith
word-bound (Some w) fits = fits w refl

group-bound : {T : Type 0} (table : Table T) (q : ℕ) → group_word table q < 2 ^ 64
group-bound table q = elim (cases_lt q 64) [
  | inl low ↦ word-fits (value_in table.groups) (length table.items.items) q table.laid_out low
  | inr past ↦ (let none = group-past table q past in omega (arith, none))
]

words-bound : (words : Table ℕ) → AreNonzero words → (p : ℕ) → or_zero (value_at words p) < 2 ^ 64
words-bound words nonzero p = word-bound (value_at words p) (λ w is. elim (cases_lt p 4096) [
  | inl low ↦ (nonzero p w low is).1
  | inr past ↦ absurd (none-some w (sym (value-past words p past) ∙ is))
])

root-bound : (root_word p : ℕ) → root_word < 2 ^ 64 → (if p == 0 then root_word else 0) < 2 ^ 64
root-bound w p fits = elim (same_or_not p 0) [
  | inl top ↦ rw (eq_same p 0 top) fits
  | inr other ↦ rw (eq_other p 0 other) (omega arith)
]

under-bound : (o : Option Chunk) (l p : ℕ) → word_under o l p < 2 ^ 64
under-bound None l p = omega arith
under-bound (Some chunk) zero p = words-bound chunk.words chunk.nonzero p
under-bound (Some chunk) (suc zero) p = group-bound chunk.words p
under-bound (Some chunk) (suc (suc l)) p = root-bound chunk.words.groups.word p chunk.words.groups.fits

-- each word of a set is one
pub words-fit : (chunks : Table Chunk) (l p : ℕ) → word_in chunks l p < 2 ^ 64
unfolding word_in
words-fit chunks zero p = under-bound (value_at chunks (p / 4096)) 0 (p % 4096)
words-fit chunks (suc zero) p = under-bound (value_at chunks (p / 64)) 1 (p % 64)
words-fit chunks (suc (suc zero)) p = under-bound (value_at chunks p) 2 0
words-fit chunks (suc (suc (suc zero))) p = group-bound chunks p
words-fit chunks (suc (suc (suc (suc l)))) p = root-bound chunks.groups.word p chunks.groups.fits

-- no number past the range is a member
pub members-within : (chunks : Table Chunk) (i : ℕ) → holds_at (word_in chunks) i ≡ true → i < 2 ^ 30
unfolding word_in
members-within chunks i on = elim (cases_lt i (2 ^ 30)) [
  | inl low ↦ low
  | inr past ↦ absurd (
      let none : word_under (value_at chunks (i / 64 / 4096)) 0 (i / 64 % 4096) ≡ 0 = ap (λ o. word_under o 0 (i / 64 % 4096)) (value-past chunks (i / 64 / 4096) (omega (arith, past))) in
      false≢true (sym (ap (λ w. bit_is_set w (i % 64)) none ∙ zero-is-clear 0 (i % 64) (bit_at-zero (i % 64))) ∙ on))
]
