-- How many words of a set are nonzero, counted by its tables.
use Rattle.std.proofs.Common.{◌≡◌, ℕ, ◌+◌, ◌-◌, ◌*◌, ◌/◌, ◌%◌, ◌<◌, ◌≤◌, ◌==◌, Bool, true, false, not, List, [], ◌∷◌, length, Option, Some, None, refl, sym, ◌∙◌, ap, arith, inl, inr, length-append}
use Rattle.std.specs.List.{flat_map, sum_by, zip}
use Rattle.std.specs.Int.{bit_at}
use Rattle.std.proofs.lemmas.Bool.{cases_Bool}
use Rattle.std.proofs.lemmas.List.Sums.{sum_by-cons}
use Rattle.hibitset_base.specs.Decisions.{eq_other, eq_same}
use Rattle.hibitset_base.specs.Members.{members, members_below}
use Rattle.hibitset_base.specs.Places.{bits_from}
use Rattle.hibitset_base.proofs.MemberLemmas.{members-none, members-same}
use Rattle.hibitset_base.proofs.OneCountLemmas.{bits-count, few_ones}
use Rattle.hibitset_sparse.specs.Chunk.{chunk_word, or_zero}
use Rattle.hibitset_sparse.specs.Chunks.{word_in, word_under, AreFull}
use Rattle.hibitset_sparse.specs.Layout.{word_or_none}
use Rattle.hibitset_sparse.specs.Memory.{bytes_in_chunk, memory_of, nonzero_words}
use Rattle.hibitset_sparse.specs.PackedArray.{value_in}
use Rattle.hibitset_sparse.specs.Rank.{bit_is_set}
use Rattle.hibitset_sparse.specs.Table.{group_word, value_at}
use Rattle.hibitset_sparse.specs.Walk.{places_of_groups}
use Rattle.hibitset_sparse.specs.declared.chunk.Chunk.{Chunk}
use Rattle.hibitset_sparse.specs.declared.group.Group.{Group}
use Rattle.hibitset_sparse.specs.declared.packed_array.PackedArray.{PackedArray}
use Rattle.hibitset_sparse.specs.declared.table.Table.{Table}
use Rattle.hibitset_sparse.proofs.BeforeLemmas.{shifted}
use Rattle.hibitset_sparse.proofs.EntryLemmas.{given, is_taken, places-are, places-count, table-blocks}
use Rattle.hibitset_sparse.proofs.LayoutLemmas.{laid-few}
use Rattle.hibitset_sparse.proofs.PackedArrayLemmas.{clear-is-zero, set-is-one}
use Rattle.hibitset_sparse.proofs.WordLemmas.{array-none, array-some, group-off, group-on}

-- a number is not 0
abbrev pub is_some_word : ℕ → Bool
is_some_word w = not (w == 0)

some-word-is : (w : ℕ) → 0 < w → is_some_word w ≡ true
some-word-is w some = ap not (eq_other w 0 (λ e. absurd (omega (arith, e, some))))

no-word-is : (w : ℕ) → w ≡ 0 → is_some_word w ≡ false
no-word-is w none = ap not (eq_same w 0 none)

module _ {X : Type 0} (t : X → ℕ → Bool) (weight : X → ℕ) (size : ℕ) (weighs : (x : X) → length (members_below size (t x)) ≡ weight x) where
  -- what a value has from its place on
  abbrev block : ℕ × X → List ℕ
  block e = members (λ q. t e.1 (q - (0 + e.0 * size))) (0 + e.0 * size) size

  block-long : (i : ℕ) (x : X) → length (block (i, x)) ≡ weight x
  block-long i x = shifted (λ q. t x (q - (0 + i * size))) (t x) (0 + i * size) 0 size
      (λ k low. let e : 0 + i * size + k - (0 + i * size) ≡ 0 + k = omega arith in ap (t x) e) ∙ weighs x

  blocks-long : (ps : List ℕ) (xs : List X) → length ps ≡ length xs → length (flat_map block (zip ps xs)) ≡ sum_by weight xs
  blocks-long [] [] long = refl
  blocks-long [] (x ∷ xs) long = absurd (omega (arith, long))
  blocks-long (p ∷ ps) [] long = absurd (omega (arith, long))
  blocks-long (p ∷ ps) (x ∷ xs) long =
      let rest = blocks-long ps xs (omega (arith, long)) in
      let here = block-long p x in
      let split = length-append (block (p, x)) (flat_map block (zip ps xs)) in
      let more = sum_by-cons weight x xs in
      omega (arith, rest, here, split, more)

  -- what the place of a value has
  abbrev pub test_of : Option X → ℕ → Bool
  test_of None k = false
  test_of (Some x) k = t x k

  -- what all places of a table have is counted by its values
  pub table-weighs : (table : Table X) (p : ℕ → Bool) → ((i k : ℕ) → i < 4096 → k < size → p (i * size + k) ≡ test_of (value_at table i) k)
      → length (members p 0 (4096 * size)) ≡ sum_by weight table.items.items
  table-weighs table p same =
      sym (ap length (table-blocks table block p 0 size (λ i low. each i low (value_at table i) refl)))
      ∙ blocks-long (places_of_groups (bits_from 0 table.groups.word) table.groups.items.items) table.items.items (places-count table)
    where
      each : (i : ℕ) → i < 4096 → (o : Option X) → value_at table i ≡ o → given block i o ≡ members p (0 + i * size) size
      each i low None is = sym (members-none p (0 + i * size) size (λ q from below.
          let e : q ≡ i * size + (q - i * size) = omega (arith, from) in
          ap p e ∙ (same i (q - i * size) low (omega (arith, from, below)) ∙ ap (λ o. test_of o (q - i * size)) is)))
      each i low (Some x) is = members-same (λ q. t x (q - (0 + i * size))) p (0 + i * size) size (λ q from below.
          let e : q ≡ i * size + (q - (0 + i * size)) = omega (arith, from) in
          sym (ap p e ∙ (same i (q - (0 + i * size)) low (omega (arith, from, below)) ∙ ap (λ o. test_of o (q - (0 + i * size))) is)))

-- a group of an array is nonzero where there is one
row-count : (row : PackedArray Group) → ((q : ℕ) (g : Group) → q < 64 → value_in row q ≡ Some g → 0 < g.word)
    → length (members_below 64 (λ q. is_some_word (word_or_none (value_in row q)))) ≡ length row.items.items
row-count row nonzero =
    let bits = members-same (λ q. is_some_word (word_or_none (value_in row q))) (λ q. bit_at row.word (q - 0) == 1) 0 64 (λ q from below. by q below) in
    let ones = bits-count 0 row.word row.fits in
    let counted = row.counted in
    ap length bits ∙ (ones ∙ sym counted)
  where
    by : (q : ℕ) → q < 0 + 64 → is_some_word (word_or_none (value_in row q)) ≡ (bit_at row.word (q - 0) == 1)
    by q below =
        let e : q - 0 ≡ q = omega arith in
        elim (cases_Bool (bit_is_set row.word q)) [
          | inl on ↦
              let found = array-some row q (set-is-one row.word q on) in
              ap (λ o. is_some_word (word_or_none o)) found.1 ∙ (some-word-is (found.0).word (nonzero q found.0 (omega (arith, below)) found.1)
              ∙ sym (ap (λ k. bit_at row.word k == 1) e ∙ on))
          | inr off ↦
              let none = array-none row q (clear-is-zero row.word q off) in
              ap (λ o. is_some_word (word_or_none o)) none ∙ (no-word-is 0 refl ∙ sym (ap (λ k. bit_at row.word k == 1) e ∙ off))
        ]

-- the groups of a table with a value
pub groups-count : {X : Type 0} (table : Table X) → length (members_below 64 (λ q. is_some_word (group_word table q))) ≡ length table.groups.items.items
groups-count table = row-count table.groups table.laid_out.nonzero

module _ {X : Type 0} (table : Table X) (f : Option X → ℕ) (none : f None ≡ 0)
    (some : (i : ℕ) (x : X) → i < 4096 → value_at table i ≡ Some x → 0 < f (Some x)) where
  taken-is : (i : ℕ) → i < 4096 → is_some_word (f (value_at table i)) ≡ is_taken table i
  taken-is i low = elim (cases_Bool (is_taken table i)) [
    | inl on ↦
        let found = group-on table (i / 64) (i % 64) (omega (arith, low)) (set-is-one (group_word table (i / 64)) (i % 64) on) in
        ap (λ o. is_some_word (f o)) found.1 ∙ (some-word-is (f (Some found.0)) (some i found.0 low found.1) ∙ sym on)
    | inr off ↦
        let empty = group-off table (i / 64) (i % 64) (clear-is-zero (group_word table (i / 64)) (i % 64) off) in
        ap (λ o. is_some_word (f o)) empty ∙ (no-word-is (f None) none ∙ sym off)
  ]

  -- the places of a table with a value
  pub values-count : length (members_below 4096 (λ i. is_some_word (f (value_at table i)))) ≡ length table.items.items
  values-count =
      ap length (members-same (λ i. is_some_word (f (value_at table i))) (is_taken table) 0 4096 (λ i from below. taken-is i (omega (arith, below))))
      ∙ (sym (ap length (places-are table)) ∙ places-count table)

-- a table has no more values than places
pub few-words : (chunk : Chunk) → length chunk.words.items.items ≤ 4096
few-words chunk = laid-few (value_in chunk.words.groups) (length chunk.words.items.items) chunk.words.laid_out

pub few-groups : (row : PackedArray Group) → length row.items.items ≤ 64
few-groups row = let few = few_ones row.word row.fits in let counted = row.counted in omega (arith, few, counted)

-- the words of a chunk
chunk-words : (chunk : Chunk) → length (members_below 4096 (λ k. is_some_word (chunk_word chunk 0 k))) ≡ length chunk.words.items.items
chunk-words chunk = values-count chunk.words or_zero refl (λ i w low is. (chunk.nonzero i w low is).0)

-- and its groups
chunk-groups : (chunk : Chunk) → length (members_below 64 (λ k. is_some_word (chunk_word chunk 1 k))) ≡ length chunk.words.groups.items.items
chunk-groups chunk = groups-count chunk.words

sums-apart : (xs : List Chunk) → sum_by bytes_in_chunk xs ≡ 8 * sum_by (λ x. length x.words.items.items) xs + 16 * sum_by (λ x. length x.words.groups.items.items) xs
sums-apart [] = refl
sums-apart (x ∷ xs) =
    let rest = sums-apart xs in
    let a = sum_by-cons bytes_in_chunk x xs in
    let b = sum_by-cons (λ (y : Chunk). length y.words.items.items) x xs in
    let c = sum_by-cons (λ (y : Chunk). length y.words.groups.items.items) x xs in
    omega (arith, rest, a, b, c)

module _ (chunks : Table Chunk) (full : AreFull chunks) where
  words-0 : nonzero_words (word_in chunks) 0 ≡ sum_by (λ (x : Chunk). length x.words.items.items) chunks.items.items
  unfolding word_in
  words-0 = table-weighs (λ x k. is_some_word (chunk_word x 0 k)) (λ x. length x.words.items.items) 4096 chunk-words chunks
      (λ p. is_some_word (word_in chunks 0 p)) (λ i k low small.
      let row : (i * 4096 + k) / 4096 ≡ i = omega (arith, small) in
      let bit : (i * 4096 + k) % 4096 ≡ k = omega (arith, small) in
      rw (row, bit) (by (value_at chunks i) k))
    where
      by : (o : Option Chunk) (k : ℕ) → is_some_word (word_under o 0 k) ≡ test_of (λ x k. is_some_word (chunk_word x 0 k)) (λ x. length x.words.items.items) 4096 chunk-words o k
      by None k = no-word-is 0 refl
      by (Some x) k = refl

  words-1 : nonzero_words (word_in chunks) 1 ≡ sum_by (λ (x : Chunk). length x.words.groups.items.items) chunks.items.items
  unfolding word_in
  words-1 = table-weighs (λ x k. is_some_word (chunk_word x 1 k)) (λ x. length x.words.groups.items.items) 64 chunk-groups chunks
      (λ p. is_some_word (word_in chunks 1 p)) (λ i k low small.
      let row : (i * 64 + k) / 64 ≡ i = omega (arith, small) in
      let bit : (i * 64 + k) % 64 ≡ k = omega (arith, small) in
      rw (row, bit) (by (value_at chunks i) k))
    where
      by : (o : Option Chunk) (k : ℕ) → is_some_word (word_under o 1 k) ≡ test_of (λ x k. is_some_word (chunk_word x 1 k)) (λ x. length x.words.groups.items.items) 64 chunk-groups o k
      by None k = no-word-is 0 refl
      by (Some x) k = refl

  words-2 : nonzero_words (word_in chunks) 2 ≡ length chunks.items.items
  unfolding word_in
  words-2 = values-count chunks (λ o. word_under o 2 0) refl (λ i x low is. full i x low is)

  words-3 : nonzero_words (word_in chunks) 3 ≡ length chunks.groups.items.items
  unfolding word_in
  words-3 = groups-count chunks

  -- the bytes of all tables are those of the nonzero words
  pub all-bytes : sum_by bytes_in_chunk chunks.items.items + 56 * length chunks.items.items + 16 * length chunks.groups.items.items ≡ memory_of (word_in chunks)
  all-bytes =
      let apart = sums-apart chunks.items.items in
      let zeroth = words-0 in
      let first = words-1 in
      let second = words-2 in
      let third = words-3 in
      omega (arith, apart, zeroth, first, second, third)
