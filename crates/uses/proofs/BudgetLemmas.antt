-- How many words walks over what two sets have in common read, and where they lie.
use Rattle.std.proofs.Common.{◌≡◌, ◌⊎◌, inl, inr, Option, Some, None, IfSome, ℕ, suc, ◌+◌, ◌*◌, ◌/◌, ◌^◌, ◌<◌, ◌≤◌, Bool, true, false, List, [], ◌∷◌, ◌++◌, length, filter, refl, sym, ap, ◌∙◌, arith, lit<, length-append}
use Rattle.std.specs.List.{All}
use Rattle.std.proofs.Math.Nat.{div-lt_iff_lt-mul, div-mul-le_self, one-le-pow}
use Rattle.std.proofs.lemmas.Bool.{lt-ltb, le-ltb, cases_lt}
use Rattle.std.proofs.lemmas.List.Elements.{filter-append, All-weaker}
use Rattle.hibitset.specs.Prelude.{Place, IsAheadFrom, BeginsBy, BeginsAfter, AreBoundByMembers, IsAboveMember, words_under, intersection_word, LAYERS, MAX_EID, members_below, SplitReads, part_reads, part_words, BitProducer, has}
use Rattle.hibitset.specs.declared.set.BitSet.{BitSet}
use Rattle.std.specs.Borrow.{Bor}
use Rattle.uses.specs.Budget.{Both, words_in_both, is_after, budget, part_reads_in_all, other_reads_in_all, EndsBy, BeginsBefore}

module _ (index : ℕ) (place : Place) where
  some : 0 < 64 ^ (place.layer + 1)
  some = one-le-pow (place.layer + 1) 64 (lit< tt)

  after : BeginsAfter index place → is_after index place ≡ true
  after h = lt-ltb index (place.position * 64 ^ (place.layer + 1)) ((div-lt_iff_lt-mul some).0 h)

  not_after : BeginsBy index place → is_after index place ≡ false
  not_after h = elim (cases_lt index (place.position * 64 ^ (place.layer + 1))) [
    | inl below ↦ absurd (let k = (div-lt_iff_lt-mul some).1 below in omega (arith, k, h))
    | inr past ↦ le-ltb index (place.position * 64 ^ (place.layer + 1)) past
  ]

all_kept : {X : Type 0} (p : X → Bool) (xs : List X) → All (λ x. p x ≡ true) xs → filter p xs ≡ xs
all_kept p [] all = refl
all_kept p (x ∷ xs) all =
    let first : p x ≡ true = all 0 x (omega arith) in
    rw first (ap (λ l. x ∷ l) (all_kept p xs (λ k d below. all (suc k) d (omega arith))))

none_kept : {X : Type 0} (p : X → Bool) (xs : List X) → All (λ x. p x ≡ false) xs → filter p xs ≡ []
none_kept p [] all = refl
none_kept p (x ∷ xs) all =
    let first : p x ≡ false = all 0 x (omega arith) in
    rw first (none_kept p xs (λ k d below. all (suc k) d (omega arith)))

-- Of the words of a whole walk, those with only indices after this one are ahead of a walk from it.
pub ahead_are_after : (index reads : ℕ) (all ahead : List Place) → IsAheadFrom index reads all ahead → ahead ≡ filter (is_after index) all
ahead_are_after index reads all ahead h =
    let gone = none_kept (is_after index) h.passed (λ k d below. not_after index _ (h.before k d below)) in
    let kept = all_kept (is_after index) ahead (λ k d below. after index _ (h.after k d below)) in
    let parts = filter-append (is_after index) h.passed ahead in
    sym kept ∙ ap (λ l. l ++ filter (is_after index) ahead) (sym gone) ∙ sym parts ∙ ap (filter (is_after index)) (sym h.whole)

-- A walk from an index on reads no more words than a whole walk has.
pub no_more_reads : (index reads : ℕ) (all ahead : List Place) → IsAheadFrom index reads all ahead → reads + length ahead ≤ length all
no_more_reads index reads all ahead h =
    let long = ap length h.whole in
    let sum = length-append h.passed ahead in
    let few = h.few in
    omega (arith, long, sum, few)

-- all words that a walk over what two sets have reads
abbrev pub all_words : Bor BitSet → Bor BitSet → List Place
all_words a b = words_under (intersection_word a.now b.now) LAYERS 0

module _ (index reads : ℕ) (all whole ahead rest : List Place) (top : Place) (from : IsAheadFrom index reads all ahead) (same : all ≡ whole) (read : whole ≡ top ∷ rest) where
  -- A walk from an index on reads no more words than a whole one, which has read the top.
  pub fewer_reads : reads + length ahead ≤ 1 + length rest
  fewer_reads =
      let less = no_more_reads index reads all ahead from in
      let long = ap length (same ∙ read) in
      omega (arith, less, long)

  -- The words ahead of it are those ahead of the whole one that have only indices after this one.
  pub later_ahead : is_after index top ≡ false → ahead ≡ filter (is_after index) rest
  later_ahead not_top =
      let first : filter (is_after index) (top ∷ rest) ≡ filter (is_after index) rest = rw not_top refl in
      ahead_are_after index reads all ahead from ∙ ap (filter (is_after index)) (same ∙ read) ∙ first

-- Words that lie within both sets are few.
pub within_budget : (a b : BitSet) (words : List Place) → AreBoundByMembers LAYERS (has a) words → AreBoundByMembers LAYERS (has b) words → 1 + length words ≤ budget a b
within_budget a b words one two =
    let h : length words ≤ 4 * length (members_below MAX_EID (has a)) = one.few in
    let k : length words ≤ 4 * length (members_below MAX_EID (has b)) = two.few in
    omega (arith, h, k)

length_three : {X : Type 0} (xs ys zs : List X) → length (xs ++ ys ++ zs) ≡ length xs + length ys + length zs
length_three xs ys zs =
    let outer = length-append (xs ++ ys) zs in
    let inner = length-append xs ys in
    omega (arith, outer, inner)

-- The parts of a split read together what the whole would have read.
pub parts_read : (whole : BitProducer Both) (looks : ℕ) (part : BitProducer Both) (other : Option (BitProducer Both)) → SplitReads words_in_both looks whole part other → IfSome other (λ o. part_reads o ≡ 0)
    → part_reads_in_all part + other_reads_in_all other ≡ part_reads_in_all whole
parts_read whole looks part None h none =
    let long = ap length h.ahead in
    let sum = length_three h.read (part_words words_in_both part) [] in
    let count = h.count in
    omega (arith, long, sum, count)
parts_read whole looks part (Some other) h none =
    let long = ap length h.ahead in
    let sum = length_three h.read (part_words words_in_both part) (part_words words_in_both other) in
    let count = h.count in
    omega (arith, long, sum, count, none)

-- A word over members of a set begins before the set ends.
pub begins_before : (end : ℕ) (set : BitSet) → EndsBy set end → (place : Place) → IsAboveMember (has set) place → BeginsBefore end place
begins_before end set ends place h =
    let size : ℕ = 64 ^ (place.layer + 1) in
    let low : h.0 / size * size ≤ h.0 = div-mul-le_self h.0 size in
    let same : h.0 / size * size ≡ place.position * size = ap (λ q. q * size) h.2 in
    let below : h.0 < end = ends h.0 h.1 in
    omega (arith, low, same, below)

-- Words that lie within both sets begin before either ends.
pub within_both : (a b : BitSet) (words : List Place) → AreBoundByMembers LAYERS (has a) words → AreBoundByMembers LAYERS (has b) words → (end : ℕ) → EndsBy a end ⊎ EndsBy b end → All (BeginsBefore end) words
within_both a b words one two end ends = elim ends [
  | inl first ↦ All-weaker (IsAboveMember (has a)) (BeginsBefore end) (begins_before end a first) words one.over
  | inr second ↦ All-weaker (IsAboveMember (has b)) (BeginsBefore end) (begins_before end b second) words two.over
]
