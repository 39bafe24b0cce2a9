-- The values of a table, beside their places, in ascending order.
use Rattle.std.proofs.Common.{◌≡◌, ℕ, zero, suc, ◌+◌, ◌-◌, ◌*◌, ◌/◌, ◌%◌, ◌<◌, ◌≤◌, ◌==◌, Bool, true, false, List, [], ◌∷◌, ◌++◌, length, drop, take, Option, Some, None, refl, sym, ◌∙◌, ap, arith, inl, inr}
use Rattle.std.specs.Prelude.{option_and_then}
use Rattle.std.specs.List.{flat_map, slice_get, zip}
use Rattle.std.specs.Int.{bit_at}
use Rattle.std.proofs.lemmas.Bool.{cases_lt, cases_Bool}
use Rattle.std.proofs.lemmas.Nat.Bits.{bit_at-zero}
use Rattle.std.proofs.lemmas.Option.{none-some, same_Some}
use Rattle.hibitset_base.specs.Members.{members}
use Rattle.hibitset_base.specs.Places.{bits_from}
use Rattle.hibitset_base.proofs.MemberLemmas.{members-append, members-none, members-same}
use Rattle.hibitset_sparse.specs.Rank.{bit_is_set, rank_in}
use Rattle.hibitset_sparse.specs.Layout.{value_by_group, values_before, word_or_none}
use Rattle.hibitset_sparse.specs.PackedArray.{value_in}
use Rattle.hibitset_sparse.specs.Table.{value_at, values_before_place, group_word}
use Rattle.hibitset_sparse.specs.Walk.{entries_of, places_of_groups}
use Rattle.hibitset_sparse.specs.declared.group.Group.{Group}
use Rattle.hibitset_sparse.specs.declared.packed_array.PackedArray.{PackedArray}
use Rattle.hibitset_sparse.specs.declared.table.Table.{Table}
use Rattle.hibitset_sparse.proofs.RankLemmas.{rank-all, rank-more, rank-none}
use Rattle.hibitset_sparse.proofs.LayoutLemmas.{before-more, before-none, word-fits}
use Rattle.hibitset_sparse.proofs.PackedArrayLemmas.{clear-is-zero, one-is-set, set-is-one, value-on, zero-is-clear}
use Rattle.hibitset_sparse.proofs.WordLemmas.{array-none, array-some, group-off, group-on}

module _ {X : Type 0} where
  drop-get : (xs : List X) (k : ℕ) (x : X) → slice_get xs k ≡ Some x → drop k xs ≡ x ∷ drop (suc k) xs
  drop-get [] k x is = absurd (none-some x is)
  drop-get (y ∷ ys) zero x is = ap (λ z. z ∷ ys) (same_Some y x is)
  drop-get (y ∷ ys) (suc k) x is = drop-get ys k x is

  -- what is given of a place, if it has a value
  abbrev pub given : (ℕ × X → List ℕ) → ℕ → Option X → List ℕ
  given f i None = []
  given f i (Some x) = f (i, x)

  -- The first n places with a value are those at which a test holds, and their values stand in a list in the order of
  -- the places: that of place i at `pos i`.
  pub record AreInOrder (test : ℕ → Bool) (pos : ℕ → ℕ) (value : ℕ → Option X) (xs : List X) (n : ℕ) : Type 0 where
    pub begins : pos 0 ≡ 0
    pub some : (i : ℕ) → i < n → test i ≡ true → (x : X) × (value i ≡ Some x) × (slice_get xs (pos i) ≡ Some x)
    pub none : (i : ℕ) → i < n → test i ≡ false → value i ≡ None
    pub after_some : (i : ℕ) → i < n → test i ≡ true → pos (i + 1) ≡ pos i + 1
    pub after_none : (i : ℕ) → i < n → test i ≡ false → pos (i + 1) ≡ pos i

  module _ (test : ℕ → Bool) (pos : ℕ → ℕ) (value : ℕ → Option X) (xs : List X) (n : ℕ) (order : AreInOrder test pos value xs n)
      (f : ℕ × X → List ℕ) (p : ℕ → Bool) (s size : ℕ) (each : (i : ℕ) → i < n → given f i (value i) ≡ members p (s + i * size) size) where
    blocks-from : (a k : ℕ) → a + k ≡ n → flat_map f (zip (members test a k) (drop (pos a) xs)) ≡ members p (s + a * size) (k * size)
    unfolding members
    blocks-from a zero all = let e : 0 * size ≡ 0 = omega arith in rw e refl
    blocks-from a (suc k) all =
        let long : suc k * size ≡ size + k * size = omega arith in
        let next : s + suc a * size ≡ s + a * size + size = omega arith in
        let rest : flat_map f (zip (members test (suc a) k) (drop (pos (suc a)) xs)) ≡ members p (s + a * size + size) (k * size) = rw next at
        (blocks-from (suc a) k (omega arith)) in
        let both : members p (s + a * size) (suc k * size) ≡ members p (s + a * size) size ++ members p (s + a * size + size) (k * size) = ap (members p
        (s + a * size)) long ∙ members-append p (s + a * size) size (k * size) in
        let one : a + 1 ≡ suc a = omega arith in
        elim (cases_Bool (test a)) [
          | inl on ↦
              let found = order.some a (omega arith) on in
              let here : f (a, found.0) ≡ members p (s + a * size) size = ap (given f a) (sym found.1) ∙ each a (omega arith) in
              let step : pos (suc a) ≡ suc (pos a) = ap pos (sym one) ∙ (order.after_some a (omega arith) on ∙ omega arith) in
              rw (on, drop-get xs (pos a) found.0 found.2, both, ← step) (ap (λ ys. ys ++ flat_map f (zip (members test (suc a) k) (drop (pos
              (suc a)) xs))) here ∙ ap (λ ys. members p (s + a * size) size ++ ys) rest)
          | inr off ↦
              let here : [] ≡ members p (s + a * size) size = ap (given f a) (sym (order.none a (omega arith) off)) ∙ each a (omega arith) in
              let step : pos (suc a) ≡ pos a = ap pos (sym one) ∙ order.after_none a (omega arith) off in
              rw (off, both, ← here, ← step) rest
        ]

    -- what the values give, one after another, is a range of members
    pub blocks : flat_map f (zip (members test 0 n) xs) ≡ members p s (n * size)
    blocks =
        let start : s + 0 * size ≡ s = omega arith in
        let whole = rw (start, order.begins) at (blocks-from 0 n (omega arith)) in
        whole

module _ {X : Type 0} where
  row-order : (row : PackedArray X) → AreInOrder (bit_is_set row.word) (rank_in row.word) (value_in row) row.items.items 64
  row-order row = record {
    begins = rank-none row.word;
    some = λ i low on.
        let found = array-some row i (set-is-one row.word i on) in
        (found.0, found.1, sym (value-on (slice_get row.items.items) row.word i on) ∙ found.1);
    none = λ i low off. array-none row i (clear-is-zero row.word i off);
    after_some = λ i low on. let more = rank-more row.word i in let bit = set-is-one row.word i on in omega (arith, more, bit);
    after_none = λ i low off. let more = rank-more row.word i in let bit = clear-is-zero row.word i off in omega (arith, more, bit);
  }

-- the places in a group
abbrev in_group : ℕ × Group → List ℕ
in_group e = bits_from (64 * e.0) (e.1).word

module _ {X : Type 0} where
  -- a place of a table has a value
  abbrev pub is_taken : Table X → ℕ → Bool
  is_taken table i = bit_is_set (group_word table (i / 64)) (i % 64)

  at-place : (items : List X) (o : Option Group) (b before : ℕ) → bit_at (word_or_none o) b ≡ 1 → ((g : Group) → o ≡ Some g → g.start ≡ before)
      → option_and_then (value_by_group items b) o ≡ slice_get items (before + rank_in (word_or_none o) b)
  at-place items None b before on starts = absurd (let off = bit_at-zero b in omega (arith, on, off))
  at-place items (Some g) b before on starts =
      value-on (λ k. slice_get items (g.start + k)) g.word b (one-is-set g.word b on) ∙ ap (λ k. slice_get items (k + rank_in g.word b)) (starts g refl)

  next-place : (table : Table X) (i : ℕ) → i < 4096 → values_before_place table (i + 1) ≡ values_before (value_in table.groups) (i / 64) + rank_in
      (group_word table (i / 64)) (i % 64 + 1)
  next-place table i low = elim (cases_lt (i % 64) 63) [
    | inl within ↦
        let row : (i + 1) / 64 ≡ i / 64 = omega arith in
        let bit : (i + 1) % 64 ≡ i % 64 + 1 = omega arith in
        rw (row, bit) refl
    | inr last ↦
        let row : (i + 1) / 64 ≡ suc (i / 64) = omega arith in
        let bit : (i + 1) % 64 ≡ 0 = omega arith in
        let end : i % 64 + 1 ≡ 64 = omega arith in
        let more = before-more (value_in table.groups) (i / 64) in
        let none = rank-none (group_word table (suc (i / 64))) in
        let all = rank-all (group_word table (i / 64)) (word-fits (value_in table.groups) (length table.items.items) (i / 64) table.laid_out (omega arith)) in
        rw (row, bit, end) (omega (arith, more, none, all))
  ]

  table-order : (table : Table X) → AreInOrder (is_taken table) (values_before_place table) (value_at table) table.items.items 4096
  table-order table = record {
    begins = (let none = rank-none (group_word table 0) in let first = before-none (value_in table.groups) in omega (arith, none, first));
    some = λ i low on.
        let bit = set-is-one (group_word table (i / 64)) (i % 64) on in
        let found = group-on table (i / 64) (i % 64) (omega arith) bit in
        let at = at-place table.items.items (value_in table.groups (i / 64)) (i % 64) (values_before (value_in table.groups) (i / 64)) bit
        (λ g is. table.laid_out.starts (i / 64) g (omega arith) is) in
        (found.0, found.1, sym at ∙ found.1);
    none = λ i low off. group-off table (i / 64) (i % 64) (clear-is-zero (group_word table (i / 64)) (i % 64) off);
    after_some = λ i low on.
        let next = next-place table i low in
        let more = rank-more (group_word table (i / 64)) (i % 64) in
        let bit = set-is-one (group_word table (i / 64)) (i % 64) on in
        omega (arith, next, more, bit);
    after_none = λ i low off.
        let next = next-place table i low in
        let more = rank-more (group_word table (i / 64)) (i % 64) in
        let bit = clear-is-zero (group_word table (i / 64)) (i % 64) off in
        omega (arith, next, more, bit);
  }

  group-gives : (table : Table X) (q : ℕ) (o : Option Group) → value_in table.groups q ≡ o → given in_group q o ≡ members (is_taken table) (0 + q * 64) 64
  group-gives table q None is =
      sym (members-none (is_taken table) (0 + q * 64) 64 (λ i from below.
      let row : i / 64 ≡ q = omega arith in
      let word : group_word table (i / 64) ≡ 0 = ap (group_word table) row ∙ ap word_or_none is in
      zero-is-clear (group_word table (i / 64)) (i % 64) (ap (λ w. bit_at w (i % 64)) word ∙ bit_at-zero (i % 64))))
  group-gives table q (Some g) is =
      let start : 0 + q * 64 ≡ 64 * q = omega arith in
      rw start (members-same (λ j. bit_at g.word (j - 64 * q) == 1) (is_taken table) (64 * q) 64 (λ i from below.
      let row : i / 64 ≡ q = omega arith in
      let bit : i - 64 * q ≡ i % 64 = omega arith in
      let word : g.word ≡ group_word table (i / 64) = sym (ap (group_word table) row ∙ ap word_or_none is) in
      ap (λ b. bit_at g.word b == 1) bit ∙ ap (λ w. bit_at w (i % 64) == 1) word))

  -- the places that the groups have
  pub places-are : (table : Table X) → places_of_groups (bits_from 0 table.groups.word) table.groups.items.items ≡ members (is_taken table) 0 4096
  places-are table =
      let root : bits_from 0 table.groups.word ≡ members (bit_is_set table.groups.word) 0 64 =
      members-same (λ q. bit_at table.groups.word (q - 0) == 1) (bit_is_set table.groups.word) 0 64 (λ i from below. let e : i - 0
      ≡ i = omega arith in ap (λ k. bit_at table.groups.word k == 1) e) in
      rw root (blocks (bit_is_set table.groups.word) (rank_in table.groups.word) (value_in table.groups) table.groups.items.items 64
      (row-order table.groups) in_group (is_taken table) 0 64
      (λ q low. group-gives table q (value_in table.groups q) refl))

  -- what the values of a table give, one after another, is a range of members
  pub table-blocks : (table : Table X) (f : ℕ × X → List ℕ) (p : ℕ → Bool) (s size : ℕ) → ((i : ℕ) → i < 4096 → given f i (value_at table i)
      ≡ members p (s + i * size) size)
      → flat_map f (entries_of table) ≡ members p s (4096 * size)
  table-blocks table f p s size each =
      rw (places-are table) (blocks (is_taken table) (values_before_place table) (value_at table) table.items.items 4096 (table-order table) f p s size each)

module _ {X : Type 0} (test : ℕ → Bool) (pos : ℕ → ℕ) (value : ℕ → Option X) (xs : List X) (n : ℕ) (order : AreInOrder test pos value xs n) where
  taken-from : (a k : ℕ) → a + k ≡ n → pos a + length (members test a k) ≡ pos n
  unfolding members
  taken-from a zero all = let e : a ≡ n = omega arith in ap (λ k. pos k + 0) e ∙ omega arith
  taken-from a (suc k) all =
      let one : a + 1 ≡ suc a = omega arith in
      let rest = taken-from (suc a) k (omega arith) in
      elim (cases_Bool (test a)) [
        | inl on ↦ let step : pos (suc a) ≡ pos a + 1 = ap pos (sym one) ∙ order.after_some a (omega arith) on in rw on (omega (arith, step, rest))
        | inr off ↦ let step : pos (suc a) ≡ pos a = ap pos (sym one) ∙ order.after_none a (omega arith) off in rw off (omega (arith, step, rest))
      ]

  taken-count : length (members test 0 n) ≡ pos n
  taken-count = let all = taken-from 0 n (omega arith) in let begins = order.begins in omega (arith, all, begins)

module _ {X : Type 0} where
  order-upto : (test : ℕ → Bool) (pos : ℕ → ℕ) (value : ℕ → Option X) (xs : List X) (n k : ℕ) → k ≤ n → AreInOrder test pos value xs n
      → AreInOrder test pos value xs k
  order-upto test pos value xs n k few order = record {
    begins = order.begins;
    some = λ i low. order.some i (omega arith);
    none = λ i low. order.none i (omega arith);
    after_some = λ i low. order.after_some i (omega arith);
    after_none = λ i low. order.after_none i (omega arith);
  }

  -- each value has its place
  pub places-before : (table : Table X) (k : ℕ) → k ≤ 4096 → length (members (is_taken table) 0 k) ≡ values_before_place table k
  places-before table k few =
      taken-count (is_taken table) (values_before_place table) (value_at table) table.items.items k (order-upto (is_taken table)
      (values_before_place table) (value_at table) table.items.items 4096 k few (table-order table))

  pub places-count : (table : Table X) → length (places_of_groups (bits_from 0 table.groups.word) table.groups.items.items) ≡ length table.items.items
  places-count table =
      let taken = places-before table 4096 (omega arith) in
      let last = rank-none (group_word table 64) in
      let all = table.laid_out.all in
      rw (places-are table) (omega (arith, taken, last, all))

  zip-take : (ps : List ℕ) (xs : List X) (n : ℕ) → length ps ≡ n → zip ps (take n xs) ≡ zip ps xs
  zip-take [] xs n long = refl
  zip-take (p ∷ ps) [] zero long = refl
  zip-take (p ∷ ps) [] (suc n) long = refl
  zip-take (p ∷ ps) (x ∷ xs) zero long = absurd (omega arith)
  zip-take (p ∷ ps) (x ∷ xs) (suc n) long = ap (λ es. (p, x) ∷ es) (zip-take ps xs n (omega arith))

  -- the same of the values before a place
  pub blocks-before : (table : Table X) (k : ℕ) → k ≤ 4096 → (f : ℕ × X → List ℕ) (p : ℕ → Bool) (s size : ℕ) → ((i : ℕ) → i < 4096
      → given f i (value_at table i) ≡ members p (s + i * size) size)
      → flat_map f (zip (members (is_taken table) 0 k) (take (values_before_place table k) table.items.items)) ≡ members p s (k * size)
  blocks-before table k few f p s size each =
      let order = order-upto (is_taken table) (values_before_place table) (value_at table) table.items.items 4096 k few (table-order table) in
      ap (flat_map f) (zip-take (members (is_taken table) 0 k) table.items.items (values_before_place table k) (places-before table k few))
      ∙ blocks (is_taken table) (values_before_place table) (value_at table) table.items.items k order f p s size (λ i low. each i (omega arith))
