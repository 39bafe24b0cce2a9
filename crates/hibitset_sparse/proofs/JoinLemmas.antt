-- The chunks of two tables, as they are put together place by place.
use Rattle.std.proofs.Common.{◌≡◌, ℕ, zero, suc, ◌+◌, ◌-◌, ◌*◌, ◌/◌, ◌%◌, ◌^◌, ◌<◌, ◌≤◌, ◌==◌, true, false, length, max, Option, Some, None, refl, sym, ◌∙◌, ap, arith, inl, inr}
use Rattle.std.specs.Prelude.{◌≢◌, ◌⊎◌}
use Rattle.std.specs.Int.{bit_at}
use Rattle.std.specs.Int.RustNames.{count_ones}
use Rattle.std.proofs.lemmas.Nat.Bits.{bit_at-lt, bit_at-zero}
use Rattle.std.proofs.lemmas.Option.{none-some}
use Rattle.hibitset_base.specs.Decisions.{eq_other, eq_same, same_or_not}
use Rattle.hibitset_sparse.specs.Layout.{values_before}
use Rattle.hibitset_sparse.specs.PackedArray.{value_in}
use Rattle.hibitset_sparse.specs.Rank.{rank_in}
use Rattle.hibitset_sparse.specs.Replacement.{HaveSameWords, IsSameBeside, has_in_or, later}
use Rattle.hibitset_sparse.specs.Table.{HasCapacityFor, HasValue, group_word, value_at}
use Rattle.hibitset_sparse.specs.declared.chunk.Chunk.{Chunk}
use Rattle.hibitset_sparse.specs.declared.table.Table.{Table}
use Rattle.hibitset_sparse.proofs.AppendLemmas.{TakesLowest, ones-taken}
use Rattle.hibitset_sparse.proofs.LayoutLemmas.{before-more, before-none, before-upto}
use Rattle.hibitset_sparse.proofs.RankLemmas.{rank-all, rank-more, rank-none}
use Rattle.hibitset_sparse.proofs.ReplaceLemmas.{IsPut, capacity-fewer, put-here, put-other, same-root}
use Rattle.hibitset_sparse.proofs.SetLemmas.{has_under, none-under, root-none}
use Rattle.hibitset_sparse.proofs.WordLemmas.{bit_cases, group-off, group-on, root-bit}

-- a place whose bit is set has a value, and one whose bit is clear has none
module _ {T : Type 0} (table : Table T) (i : ℕ) where
  pub bit-has : i < 4096 → bit_at (group_word table (i / 64)) (i % 64) ≡ 1 → HasValue table i
  bit-has low on = group-on table (i / 64) (i % 64) (omega (arith, low)) on

  pub bit-has_not : bit_at (group_word table (i / 64)) (i % 64) ≡ 0 → value_at table i ≡ None
  bit-has_not off = group-off table (i / 64) (i % 64) off

  pub has-bit : (x : T) → value_at table i ≡ Some x → bit_at (group_word table (i / 64)) (i % 64) ≡ 1
  has-bit x is = elim (bit_cases (group_word table (i / 64)) (i % 64)) [
    | inl on ↦ on
    | inr off ↦ absurd (none-some x (sym (bit-has_not off) ∙ is))
  ]

-- One table has all places of another in the groups whose bits are clear.
abbrev pub CoversBut : {T : Type 0} → Table T → Table T → ℕ → Type 0
CoversBut own other left = (q b : ℕ) → q < 64 → b < 64 → bit_at left q ≡ 0 → bit_at (group_word other q) b ≡ 1 → bit_at (group_word own q) b ≡ 1

module _ {T : Type 0} (own other : Table T) where
  -- groups without values are covered
  pub covers-first : CoversBut own other other.groups.word
  covers-first q b low small off on = absurd (
      let none : group_word other q ≡ 0 = no-word q low off in
      let clear : bit_at (group_word other q) b ≡ 0 = ap (λ w. bit_at w b) none ∙ bit_at-zero b in
      omega (arith, on, clear))
    where
      no-word : (q : ℕ) → q < 64 → bit_at other.groups.word q ≡ 0 → group_word other q ≡ 0
      no-word q low off = elim (same_or_not (group_word other q) 0) [
        | inl none ↦ none
        | inr some ↦ absurd (let on = (root-bit other q low).1 (omega (arith, some)) in omega (arith, on, off))
      ]

  -- one group more is
  pub covers-more : (left rest q v : ℕ) → TakesLowest left rest q → ((b : ℕ) → bit_at v b ≡ max (bit_at (group_word other q) b) (bit_at (group_word own q) b))
      → v ≡ group_word own q → CoversBut own other left → CoversBut own other rest
  covers-more left rest q v takes either same was p b low small off on = elim (same_or_not p q) [
    | inl here ↦
        let there : bit_at (group_word other q) b ≡ 1 = ap (λ r. bit_at (group_word other r) b) (sym here) ∙ on in
        let both = either b in
        let is : bit_at v b ≡ bit_at (group_word own q) b = ap (λ w. bit_at w b) same in
        let few = bit_at-lt (group_word own q) b in
        ap (λ r. bit_at (group_word own r) b) here ∙ omega (arith, there, both, is, few)
    | inr other_group ↦ was p b low small (sym (takes.same p low other_group) ∙ off) on
  ]

  -- where none is left, all are
  pub covers-all : (left : ℕ) → left ≡ 0 → CoversBut own other left → (i : ℕ) (x : T) → i < 4096 → value_at other i ≡ Some x → HasValue own i
  covers-all left none was i x low is =
      let off : bit_at left (i / 64) ≡ 0 = ap (λ w. bit_at w (i / 64)) none ∙ bit_at-zero (i / 64) in
      bit-has own i low (was (i / 64) (i % 64) (omega (arith, low)) (omega arith) off (has-bit other i x is))

-- A word with the bits of two others has no more than both.
module _ (v x y : ℕ) (either : (b : ℕ) → bit_at v b ≡ max (bit_at x b) (bit_at y b)) where
  rank-either : (k : ℕ) → rank_in v k ≤ rank_in x k + rank_in y k
  rank-either zero = let a = rank-none v in omega (arith, a)
  rank-either (suc k) =
      let e : suc k ≡ k + 1 = omega arith in
      let lower = rank-either k in
      let here = either k in
      let a = rank-more v k in
      let b = rank-more x k in
      let c = rank-more y k in
      rw e (omega (arith, lower, here, a, b, c))

  pub ones-either : v < 2 ^ 64 → x < 2 ^ 64 → y < 2 ^ 64 → count_ones v ≤ count_ones x + count_ones y
  ones-either fits_v fits_x fits_y =
      let most = rank-either 64 in
      let a = rank-all v fits_v in
      let b = rank-all x fits_x in
      let c = rank-all y fits_y in
      omega (arith, most, a, b, c)

-- The places of group q whose bits are left are still to be put together, and the others of the group have been.
pub record AreBeingJoined (q left more : ℕ) (first0 second0 table0 first second table : Table Chunk) : Type 0 where
  pub done : (c : ℕ) → c < 4096 → c / 64 ≡ q → bit_at left (c % 64) ≡ 0 → value_at table c ≡ later (value_at first0 c) (value_at second0 c)
  pub free : (c : ℕ) → c < 4096 → c / 64 ≡ q → bit_at left (c % 64) ≡ 1 → value_at table c ≡ None
  pub of_first : (c : ℕ) → c < 4096 → (c / 64 ≡ q → bit_at left (c % 64) ≡ 1) → value_at first c ≡ value_at first0 c
  pub of_second : (c : ℕ) → c < 4096 → (c / 64 ≡ q → bit_at left (c % 64) ≡ 1) → value_at second c ≡ value_at second0 c
  pub others : IsSameBeside q table0 table
  pub first_words : HaveSameWords first0 first
  pub second_words : HaveSameWords second0 second
  pub room : (n : ℕ) → HasCapacityFor (n + more) table0 → HasCapacityFor (n + count_ones left) table

module _ (q : ℕ) (first0 second0 table0 : Table Chunk) where
  -- at first none has been
  pub join-first : (left : ℕ) → ((b : ℕ) → bit_at left b ≡ max (bit_at (group_word first0 q) b) (bit_at (group_word second0 q) b))
      → left < 2 ^ 64 → group_word first0 q < 2 ^ 64 → group_word second0 q < 2 ^ 64
      → ((c : ℕ) → c < 4096 → c / 64 ≡ q → value_at table0 c ≡ None)
      → AreBeingJoined q left (count_ones (group_word first0 q) + count_ones (group_word second0 q)) first0 second0 table0 first0 second0 table0
  join-first left either fits fits_first fits_second none = record {
    done = λ c low here off.
        let both = either (c % 64) in
        let clear_first : bit_at (group_word first0 (c / 64)) (c % 64) ≡ 0 = ap (λ r. bit_at (group_word first0 r) (c % 64)) here ∙ omega (arith, both, off) in
        let clear_second : bit_at (group_word second0 (c / 64)) (c % 64) ≡ 0 = ap (λ r. bit_at (group_word second0 r) (c % 64)) here ∙ omega (arith, both, off) in
        let one = bit-has_not first0 c clear_first in
        let two = bit-has_not second0 c clear_second in
        none c low here ∙ sym (ap (later (value_at first0 c)) two ∙ one);
    free = λ c low here on. none c low here;
    of_first = λ c low on. refl;
    of_second = λ c low on. refl;
    others = λ c low other. refl;
    first_words = λ r. refl;
    second_words = λ r. refl;
    room = λ n room. capacity-fewer (n + count_ones left) (n + (count_ones (group_word first0 q) + count_ones (group_word second0 q))) table0
        (let most = ones-either left (group_word first0 q) (group_word second0 q) either fits fits_first fits_second in omega (arith, most)) room;
  }

  module _ (left rest more b c : ℕ) (first second table first1 second1 table1 : Table Chunk) (x : Option Chunk)
      (was : AreBeingJoined q left more first0 second0 table0 first second table) (takes : TakesLowest left rest b) (at : c ≡ 64 * q + b) (group : q < 64) where
    low : c < 4096
    low = let few = takes.below in omega (arith, at, few, group)

    row : c / 64 ≡ q
    row = let few = takes.below in omega (arith, at, few)

    bit : c % 64 ≡ b
    bit = let few = takes.below in omega (arith, at, few)

    on : bit_at left (c % 64) ≡ 1
    on = ap (bit_at left) bit ∙ takes.stood

    -- a place whose bit is left lies apart from one that was taken, and had its bit before
    apart : (d : ℕ) → (d / 64 ≡ q → bit_at rest (d % 64) ≡ 1) → d ≢ c
    apart d left_over same =
        let here : d / 64 ≡ q = ap (λ k. k / 64) same ∙ row in
        let over : bit_at rest (d % 64) ≡ 1 = left_over here in
        let gone : bit_at rest (d % 64) ≡ 0 = ap (λ k. bit_at rest (k % 64)) same ∙ (ap (bit_at rest) bit ∙ takes.gone) in
        absurd (omega (arith, over, gone))

    other-bit : (d : ℕ) → d / 64 ≡ q → d ≢ c → bit_at rest (d % 64) ≡ bit_at left (d % 64)
    other-bit d here other = takes.same (d % 64) (omega arith) (λ same. other (omega (arith, at, here, same)))

    pub free-here : value_at table c ≡ None
    free-here = was.free c low row on

    -- there is room for it
    pub room-here : HasCapacityFor more table0 → left < 2 ^ 64 → rest < 2 ^ 64 → HasCapacityFor (count_ones rest + 1) table
    room-here room fits_left fits_rest =
        let ones = ones-taken left rest b takes fits_left fits_rest in
        capacity-fewer (count_ones rest + 1) (0 + count_ones left) table (omega (arith, ones)) (was.room 0 (capacity-fewer (0 + more) more table0 (omega arith) room))

    x-is : x ≡ later (value_at first c) (value_at second c) → x ≡ later (value_at first0 c) (value_at second0 c)
    x-is is = is ∙ (ap (λ o. later o (value_at second c)) (was.of_first c low (λ _. on)) ∙ ap (later (value_at first0 c)) (was.of_second c low (λ _. on)))

    -- one place more has been put together
    pub join-more : x ≡ later (value_at first c) (value_at second c) → IsPut table table1 c x
        → ((d : ℕ) → d < 4096 → d ≢ c → value_at first1 d ≡ value_at first d) → ((d : ℕ) → d < 4096 → d ≢ c → value_at second1 d ≡ value_at second d)
        → HaveSameWords first first1 → HaveSameWords second second1
        → ((n : ℕ) → HasCapacityFor (n + 1) table → HasCapacityFor n table1) → left < 2 ^ 64 → rest < 2 ^ 64
        → AreBeingJoined q rest more first0 second0 table0 first1 second1 table1
    join-more is put first_others second_others first_same second_same room fits_left fits_rest = record {
      done = λ d small here off. elim (same_or_not d c) [
        | inl same ↦ rw same (put-here table table1 c x put low ∙ x-is is)
        | inr other ↦ put-other table table1 c x put d small other ∙ was.done d small here (sym (other-bit d here other) ∙ off)
      ];
      free = λ d small here over.
          let other = apart d (λ _. over) in
          put-other table table1 c x put d small other ∙ was.free d small here (sym (other-bit d here other) ∙ over);
      of_first = λ d small over.
          let other = apart d over in
          first_others d small other ∙ was.of_first d small (λ here. sym (other-bit d here other) ∙ over here);
      of_second = λ d small over.
          let other = apart d over in
          second_others d small other ∙ was.of_second d small (λ here. sym (other-bit d here other) ∙ over here);
      others = λ d small beside. put-other table table1 c x put d small (λ same. beside (ap (λ k. k / 64) same ∙ row)) ∙ was.others d small beside;
      first_words = λ r. first_same r ∙ was.first_words r;
      second_words = λ r. second_same r ∙ was.second_words r;
      room = λ n capacity. room (n + count_ones rest) (capacity-fewer (n + count_ones rest + 1) (n + count_ones left) table
          (let ones = ones-taken left rest b takes fits_left fits_rest in omega (arith, ones)) (was.room n capacity));
    }

-- where nothing is there, nothing was put in
pub none-is-put : (table : Table Chunk) (c : ℕ) → value_at table c ≡ None → IsPut table table c None
none-is-put table c none d low = elim (same_or_not d c) [
  | inl same ↦ (let yes : (d == c) ≡ true = eq_same d c same in rw yes (ap (value_at table) same ∙ none))
  | inr other ↦ (let no : (d == c) ≡ false = eq_other d c other in rw no refl)
]

-- The chunks of all groups before one are put together.
pub record AreJoinedTo (q : ℕ) (first0 second0 first second table : Table Chunk) : Type 0 where
  pub done : (c : ℕ) → c < 4096 → c / 64 < q → value_at table c ≡ later (value_at first0 c) (value_at second0 c)
  pub free : (c : ℕ) → c < 4096 → q ≤ c / 64 → value_at table c ≡ None
  pub of_first : (c : ℕ) → c < 4096 → q ≤ c / 64 → value_at first c ≡ value_at first0 c
  pub of_second : (c : ℕ) → c < 4096 → q ≤ c / 64 → value_at second c ≡ value_at second0 c
  pub first_words : HaveSameWords first0 first
  pub second_words : HaveSameWords second0 second
  pub room : (n : ℕ) → n + values_before (value_in first0.groups) q + values_before (value_in second0.groups) q ≡ length first0.items.items + length second0.items.items
      → HasCapacityFor n table

pub joined-none : (first second table : Table Chunk) → ((c : ℕ) → value_at table c ≡ None)
    → HasCapacityFor (length first.items.items + length second.items.items) table → AreJoinedTo 0 first second first second table
joined-none first second table none room = record {
  done = λ c small before. absurd (omega (arith, before));
  free = λ c small from. none c;
  of_first = λ c small from. refl;
  of_second = λ c small from. refl;
  first_words = λ r. refl;
  second_words = λ r. refl;
  room = λ n all.
      let a = before-none (value_in first.groups) in
      let b = before-none (value_in second.groups) in
      capacity-fewer n (length first.items.items + length second.items.items) table (omega (arith, all, a, b)) room;
}

module _ (q : ℕ) (first0 second0 first second table : Table Chunk) (low : q < 64) (was : AreJoinedTo q first0 second0 first second table) where
  abbrev more : ℕ
  more = count_ones (group_word first q) + count_ones (group_word second q)

  -- where there is room for those of all groups that are left, there is for those of the next
  room-next : (n : ℕ) → n + values_before (value_in first0.groups) (q + 1) + values_before (value_in second0.groups) (q + 1) ≡ length first0.items.items + length second0.items.items
      → HasCapacityFor (n + more) table
  room-next n all =
      let e : suc q ≡ q + 1 = omega arith in
      let a : values_before (value_in first0.groups) (q + 1) ≡ values_before (value_in first0.groups) q + count_ones (group_word first0 q) = rw e at (before-more (value_in first0.groups) q) in
      let b : values_before (value_in second0.groups) (q + 1) ≡ values_before (value_in second0.groups) q + count_ones (group_word second0 q) = rw e at (before-more (value_in second0.groups) q) in
      let c : count_ones (group_word first q) ≡ count_ones (group_word first0 q) = ap count_ones (was.first_words q) in
      let d : count_ones (group_word second q) ≡ count_ones (group_word second0 q) = ap count_ones (was.second_words q) in
      was.room (n + more) (omega (arith, all, a, b, c, d))

  pub room-for : HasCapacityFor more table
  room-for =
      let a = before-upto (value_in first0.groups) (q + 1) 64 (omega arith) in
      let b = before-upto (value_in second0.groups) (q + 1) 64 (omega arith) in
      let c = first0.laid_out.all in
      let d = second0.laid_out.all in
      let n : ℕ = length first0.items.items - values_before (value_in first0.groups) (q + 1) + (length second0.items.items - values_before (value_in second0.groups) (q + 1)) in
      capacity-fewer more (n + more) table (omega arith) (room-next n (omega (arith, a, b, c, d)))

  pub joined-more : (first1 second1 table1 : Table Chunk)
      → ((c : ℕ) → c < 4096 → c / 64 ≡ q → value_at table1 c ≡ later (value_at first c) (value_at second c))
      → IsSameBeside q table table1 → IsSameBeside q first first1 → IsSameBeside q second second1
      → HaveSameWords first first1 → HaveSameWords second second1
      → ((n : ℕ) → HasCapacityFor (n + more) table → HasCapacityFor n table1)
      → AreJoinedTo (q + 1) first0 second0 first1 second1 table1
  joined-more first1 second1 table1 joined others first_others second_others first_same second_same room = record {
    done = λ c small before. elim (same_or_not (c / 64) q) [
      | inl here ↦
          joined c small here ∙ (ap (λ o. later o (value_at second c)) (was.of_first c small (omega (arith, here)))
          ∙ ap (later (value_at first0 c)) (was.of_second c small (omega (arith, here))))
      | inr other ↦ others c small other ∙ was.done c small (omega (arith, before, other))
    ];
    free = λ c small from. others c small (λ e. absurd (omega (arith, e, from))) ∙ was.free c small (omega (arith, from));
    of_first = λ c small from. first_others c small (λ e. absurd (omega (arith, e, from))) ∙ was.of_first c small (omega (arith, from));
    of_second = λ c small from. second_others c small (λ e. absurd (omega (arith, e, from))) ∙ was.of_second c small (omega (arith, from));
    first_words = λ r. first_same r ∙ was.first_words r;
    second_words = λ r. second_same r ∙ was.second_words r;
    room = λ n all. room n (room-next n all);
  }

-- an empty chunk is left out, and any other is there
pub later-empty : (chunk : Chunk) (first : Option Chunk) → chunk.words.groups.word ≡ 0 → later first (Some chunk) ≡ None
later-empty chunk first none = let yes : (chunk.words.groups.word == 0) ≡ true = eq_same chunk.words.groups.word 0 none in rw yes refl

pub later-some : (chunk : Chunk) (first : Option Chunk) → chunk.words.groups.word ≢ 0 → later first (Some chunk) ≡ Some chunk
later-some chunk first some = let no : (chunk.words.groups.word == 0) ≡ false = eq_other chunk.words.groups.word 0 some in rw no refl

-- where no first chunk is empty, none of these is
pub later-full : (first second : Option Chunk) → ((x : Chunk) → first ≡ Some x → 0 < x.words.groups.word) → (x : Chunk) → later first second ≡ Some x → 0 < x.words.groups.word
later-full first None full x is = full x is
later-full first (Some chunk) full x is = by (same_or_not chunk.words.groups.word 0)
  where
    by : (chunk.words.groups.word ≡ 0) ⊎ (chunk.words.groups.word ≢ 0) → 0 < x.words.groups.word
    by (inl none) = absurd (none-some x (sym (later-empty chunk first none) ∙ is))
    by (inr some) = same-root chunk x (omega (arith, some)) (sym (later-some chunk first some) ∙ is)

-- the members
pub later-members : (first second : Option Chunk) (i : ℕ) → has_under (later first second) (i % 262144) ≡ has_in_or second i (has_under first (i % 262144))
later-members first None i = refl
later-members first (Some chunk) i = elim (same_or_not chunk.words.groups.word 0) [
  | inl none ↦ ap (λ o. has_under o (i % 262144)) (later-empty chunk first none) ∙ (none-under (i % 262144) ∙ sym (root-none chunk none (i % 262144)))
  | inr some ↦ ap (λ o. has_under o (i % 262144)) (later-some chunk first some)
]
