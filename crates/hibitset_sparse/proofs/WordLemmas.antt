-- The words of tables and of chunks: each bit above the lowest layer tells whether there is something below it.
use Rattle.std.proofs.Common.{◌≡◌, ℕ, zero, suc, ◌+◌, ◌-◌, ◌/◌, ◌^◌, ◌<◌, ◌≤◌, ◌↔◌, List, [], ◌∷◌, length, Option, Some, None, refl, sym, ◌∙◌, ap, arith, inl, inr}
use Rattle.std.specs.Prelude.{◌⊎◌, option_and_then, slice_get}
use Rattle.std.specs.Int.{bit_at, trailing_zeros, w64}
use Rattle.std.proofs.lemmas.Bool.{cases_lt}
use Rattle.std.proofs.lemmas.Option.{slice_get_within}
use Rattle.std.proofs.lemmas.Nat.{shr_le}
use Rattle.std.proofs.lemmas.Nat.Bits.{bit_at-zero, bit_at_above, bit_at-lt, bit_at-trailing_zeros}
use Rattle.hibitset_base.proofs.MiddleBitLemmas.{bit_past}
use Rattle.hibitset_sparse.specs.Rank.{rank_in}
use Rattle.hibitset_sparse.specs.Layout.{word_or_none, AreLaidOut, CanMoveDown, CanMoveUp, HaveRoom, value_by_group}
use Rattle.hibitset_sparse.specs.PackedArray.{value_in}
use Rattle.hibitset_sparse.specs.Table.{group_word}
use Rattle.hibitset_sparse.specs.declared.group.Group.{Group}
use Rattle.hibitset_sparse.specs.declared.packed_array.PackedArray.{PackedArray}
use Rattle.hibitset_sparse.specs.declared.table.Table.{Table}
use Rattle.hibitset_sparse.proofs.RankLemmas.{rank-within, rank-all, rank-upto, select-below}
use Rattle.hibitset_sparse.proofs.PackedArrayLemmas.{one-is-set, zero-is-clear, value-on, value-off}
use Rattle.hibitset_sparse.proofs.LayoutLemmas.{place-inside, before-few}

-- a bit is 0 or 1
pub bit_cases : (w b : ℕ) → (bit_at w b ≡ 1) ⊎ (bit_at w b ≡ 0)
bit_cases w b = elim (cases_lt 0 (bit_at w b)) [
  | inl some ↦ inl (let small = bit_at-lt w b in omega (arith, some, small))
  | inr none ↦ inr (omega (arith, none))
]

module _ {T : Type 0} where
  -- there is an element at each place of a list
  pub get-some : (xs : List T) (k : ℕ) → k < length xs → (x : T) × (slice_get xs k ≡ Some x)
  get-some [] k within = absurd (omega arith)
  get-some (x ∷ xs) zero within = (x, refl)
  get-some (x ∷ xs) (suc k) within = get-some xs k (omega arith)

  pub array-some : (row : PackedArray T) (b : ℕ) → bit_at row.word b ≡ 1 → (x : T) × (value_in row b ≡ Some x)
  array-some row b on =
      let within : rank_in row.word b < length row.items.items = (let rank = rank-within row.word b on in let counted = row.counted in omega (arith, rank, counted)) in
      let found = get-some row.items.items (rank_in row.word b) within in
      (found.0, value-on (slice_get row.items.items) row.word b (one-is-set row.word b on) ∙ found.1)

  pub array-none : (row : PackedArray T) (b : ℕ) → bit_at row.word b ≡ 0 → value_in row b ≡ None
  array-none row b off = value-off (slice_get row.items.items) row.word b (zero-is-clear row.word b off)

  pub array-past : (row : PackedArray T) (b : ℕ) → 64 ≤ b → value_in row b ≡ None
  array-past row b past = array-none row b (bit_at_above row.word 64 b row.fits past)

-- the bits of a word that was shifted
-- no group has values where no bit is set
pub none-between : (row : PackedArray Group) (q t : ℕ) → ((j : ℕ) → j < t → bit_at (row.word / 2 ^ q) j ≡ 0) → (r : ℕ) → q ≤ r → r < q + t → value_in row r ≡ None
none-between row q t clear r from upto =
    let e : q + (r - q) ≡ r = omega arith in
    let bit : bit_at row.word r ≡ 0 = rw e at (sym (bit_past row.word q (r - q)) ∙ clear (r - q) (omega arith)) in
    array-none row r bit

-- the first bit of a row from one on
pub first-bit : (row : PackedArray Group) (q : ℕ) → 0 < row.word / 2 ^ q
    → (q + trailing_zeros w64 (row.word / 2 ^ q) < 64) × (bit_at row.word (q + trailing_zeros w64 (row.word / 2 ^ q)) ≡ 1) × ((j : ℕ) → j < trailing_zeros w64 (row.word / 2 ^ q) → bit_at (row.word / 2 ^ q) j ≡ 0)
first-bit row q some = (inside, bit, lowest.2)
  where
    fits : row.word / 2 ^ q < 2 ^ 64
    fits = let less = shr_le row.word q in let f = row.fits in omega (arith, less, f)

    lowest : (trailing_zeros w64 (row.word / 2 ^ q) < 64) × (bit_at (row.word / 2 ^ q) (trailing_zeros w64 (row.word / 2 ^ q)) ≡ 1) × ((i : ℕ) → i < trailing_zeros w64 (row.word / 2 ^ q) → bit_at (row.word / 2 ^ q) i ≡ 0)
    lowest = bit_at-trailing_zeros w64 (row.word / 2 ^ q) some fits

    bit : bit_at row.word (q + trailing_zeros w64 (row.word / 2 ^ q)) ≡ 1
    bit = sym (bit_past row.word q (trailing_zeros w64 (row.word / 2 ^ q))) ∙ lowest.1

    inside : q + trailing_zeros w64 (row.word / 2 ^ q) < 64
    inside = elim (cases_lt (q + trailing_zeros w64 (row.word / 2 ^ q)) 64) [
      | inl below ↦ below
      | inr past ↦ absurd (let none = bit_at_above row.word 64 (q + trailing_zeros w64 (row.word / 2 ^ q)) row.fits past in omega (arith, none, bit))
    ]

module _ {T : Type 0} where
  -- a bit of the root tells of the word of its group
  pub root-bit : (table : Table T) (q : ℕ) → q < 64 → (bit_at table.groups.word q ≡ 1) ↔ (0 < group_word table q)
  root-bit table q small = (there, back)
    where
      there : bit_at table.groups.word q ≡ 1 → 0 < group_word table q
      there on =
          let found = array-some table.groups q on in
          let nonzero = table.laid_out.nonzero q found.0 small found.1 in
          let word : group_word table q ≡ (found.0).word = ap word_or_none found.1 in
          omega (arith, nonzero, word)

      back : 0 < group_word table q → bit_at table.groups.word q ≡ 1
      back some = elim (bit_cases table.groups.word q) [
        | inl on ↦ on
        | inr off ↦ absurd (let word : group_word table q ≡ 0 = ap word_or_none (array-none table.groups q off) in omega (arith, some, word))
      ]

  pub group-past : (table : Table T) (q : ℕ) → 64 ≤ q → group_word table q ≡ 0
  group-past table q past = ap word_or_none (array-past table.groups q past)

  -- the values of a group that has a word
  of-group : (table : Table T) (q b : ℕ) (g : Group) → q < 64 → value_in table.groups q ≡ Some g → bit_at g.word b ≡ 1 → (x : T) × (value_by_group table.items.items b g ≡ Some x)
  of-group table q b g small is on =
      let within = place-inside (value_in table.groups) (length table.items.items) q b g table.laid_out small is on in
      let found = get-some table.items.items (g.start + rank_in g.word b) within in
      (found.0, value-on (λ k. slice_get table.items.items (g.start + k)) g.word b (one-is-set g.word b on) ∙ found.1)

  -- a bit of a group tells whether its place has a value
  pub group-on : (table : Table T) (q b : ℕ) → q < 64 → bit_at (group_word table q) b ≡ 1 → (x : T) × (option_and_then (value_by_group table.items.items b) (value_in table.groups q) ≡ Some x)
  group-on table q b small on = by (value_in table.groups q) refl
    where
      by : (o : Option Group) → value_in table.groups q ≡ o → (x : T) × (option_and_then (value_by_group table.items.items b) (value_in table.groups q) ≡ Some x)
      by None is = absurd (
          let word : bit_at (group_word table q) b ≡ 0 = ap (λ p. bit_at (word_or_none p) b) is ∙ bit_at-zero b in
          omega (arith, on, word))
      by (Some g) is =
          let bit : bit_at g.word b ≡ 1 = sym (ap (λ p. bit_at (word_or_none p) b) is) ∙ on in
          let found = of-group table q b g small is bit in
          (found.0, ap (option_and_then (value_by_group table.items.items b)) is ∙ found.1)

  pub group-off : (table : Table T) (q b : ℕ) → bit_at (group_word table q) b ≡ 0 → option_and_then (value_by_group table.items.items b) (value_in table.groups q) ≡ None
  group-off table q b off = by (value_in table.groups q) refl
    where
      by : (o : Option Group) → value_in table.groups q ≡ o → option_and_then (value_by_group table.items.items b) (value_in table.groups q) ≡ None
      by None is = ap (option_and_then (value_by_group table.items.items b)) is
      by (Some g) is =
          let bit : bit_at g.word b ≡ 0 = sym (ap (λ p. bit_at (word_or_none p) b) is) ∙ off in
          ap (option_and_then (value_by_group table.items.items b)) is ∙ value-off (λ k. slice_get table.items.items (g.start + k)) g.word b (zero-is-clear g.word b bit)

-- each value of a row is that of a bit
pub of-bit : {T : Type 0} (row : PackedArray T) (k : ℕ) (x : T) → slice_get row.items.items k ≡ Some x → (b : ℕ) × (b < 64) × (value_in row b ≡ Some x)
of-bit row k x is =
    let within = slice_get_within row.items.items k x is in
    let all = rank-all row.word row.fits in
    let counted = row.counted in
    let found = select-below row.word 64 k (omega (arith, within, all, counted)) in
    (found.0, found.1, value-on (slice_get row.items.items) row.word found.0 (one-is-set row.word found.0 found.2) ∙ (ap (slice_get row.items.items) found.3 ∙ is))

-- so if all groups have room, each of the list has
pub can-move : (row : PackedArray Group) → HaveRoom (value_in row) → CanMoveUp row.items.items
can-move row room k g is = let found = of-bit row k g is in room found.0 g found.1 found.2

-- and they have in a table
pub laid-room : (row : PackedArray Group) (n : ℕ) → AreLaidOut (value_in row) n → HaveRoom (value_in row)
laid-room row n laid q g small is =
    let starts = laid.starts q g small is in
    let few = before-few (value_in row) n q laid (omega arith) in
    omega (arith, starts, few, small)

-- the same, with the rank
pub of-bit-at : {T : Type 0} (row : PackedArray T) (k : ℕ) (x : T) → slice_get row.items.items k ≡ Some x → (b : ℕ) × (b < 64) × (rank_in row.word b ≡ k) × (value_in row b ≡ Some x)
of-bit-at row k x is =
    let within = slice_get_within row.items.items k x is in
    let all = rank-all row.word row.fits in
    let counted = row.counted in
    let found = select-below row.word 64 k (omega (arith, within, all, counted)) in
    (found.0, found.1, found.3, value-on (slice_get row.items.items) row.word found.0 (one-is-set row.word found.0 found.2) ∙ (ap (slice_get row.items.items) found.3 ∙ is))

-- a group with a word has its bit set in the root
pub word-on : (row : PackedArray Group) (q b : ℕ) → bit_at (word_or_none (value_in row q)) b ≡ 1 → bit_at row.word q ≡ 1
word-on row q b on = elim (bit_cases row.word q) [
  | inl set ↦ set
  | inr off ↦ absurd (let none : bit_at (word_or_none (value_in row q)) b ≡ 0 = ap (λ o. bit_at (word_or_none o) b) (array-none row q off) ∙ bit_at-zero b in omega (arith, on, none))
]

-- the groups behind one that has values do not begin at 0
pub can-move-down : (row : PackedArray Group) (q : ℕ) → ((p : ℕ) (g : Group) → q < p → p < 64 → value_in row p ≡ Some g → 0 < g.start) → CanMoveDown (rank_in row.word q + 1) row.items.items
can-move-down row q room k g from is =
    let found = of-bit-at row k g is in
    let rank = found.2 in
    elim (cases_lt q found.0) [
      | inl later ↦ room found.0 g later found.1 found.3
      | inr upto ↦ absurd (let order = rank-upto row.word found.0 q upto in omega (arith, order, rank, from))
    ]
