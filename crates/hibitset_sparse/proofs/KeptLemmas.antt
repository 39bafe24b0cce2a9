-- What is left of words, chunks and sets where the indices stay that are in another set.
use Rattle.std.proofs.Common.{◌≡◌, ℕ, ◌+◌, ◌*◌, ◌/◌, ◌%◌, ◌^◌, ◌<◌, ◌==◌, ◌&&◌, not, Bool, true, false, List, Option, Some, None, refl, sym, ◌∙◌, ap, subst, arith, inl, inr}
use Rattle.std.specs.Int.{bit_at}
use Rattle.std.specs.Prelude.{bit_and, slice_get}
use Rattle.std.proofs.Math.Bool.{and-false}
use Rattle.std.proofs.lemmas.Bool.{cases_lt, false≢true}
use Rattle.std.proofs.lemmas.Nat.Bits.{bit_at-lt, bit_at-zero, bit_at_and}
use Rattle.std.proofs.lemmas.Option.{none-some, same_Some}
use Rattle.hibitset_base.specs.Decisions.{eq_other, eq_same, same_or_not}
use Rattle.hibitset_base.specs.Sets.{IsLawful}
use Rattle.hibitset_base.specs.Words.{holds_at}
use Rattle.hibitset_base.specs.declared.util.TheConstants.{LAYERS}
use Rattle.hibitset_sparse.specs.Chunk.{has_in, or_zero}
use Rattle.hibitset_sparse.specs.Chunks.{AreFull, word_in}
use Rattle.hibitset_sparse.specs.Parts.{item_from}
use Rattle.hibitset_sparse.specs.Rank.{bit_is_set}
use Rattle.hibitset_sparse.specs.Replacement.{has_in_or}
use Rattle.hibitset_sparse.specs.Retain.{IsKeptChunk, IsKeptOfNonzero, IsKeptWord, IsRetained, LeavesOf}
use Rattle.hibitset_sparse.specs.SparseBitSet.{has, word_of}
use Rattle.hibitset_sparse.specs.Table.{AreNonzero, value_at}
use Rattle.hibitset_sparse.specs.declared.chunk.Chunk.{Chunk}
use Rattle.hibitset_sparse.specs.declared.set.SparseBitSet.{SparseBitSet}
use Rattle.hibitset_sparse.specs.declared.table.Table.{Table}
use Rattle.hibitset_sparse.proofs.AddedWordLemmas.{none-set}
use Rattle.hibitset_sparse.proofs.AssignLemmas.{none-past}
use Rattle.hibitset_sparse.proofs.LawfulWordLemmas.{clear-in_chunk, clear-in_group, holds-by_word}
use Rattle.hibitset_sparse.proofs.PackedArrayLemmas.{one-is-set, value-off, zero-is-clear}
use Rattle.hibitset_sparse.proofs.SetLemmas.{has_under, holds-under, none-under, root-none}
use Rattle.hibitset_sparse.proofs.WordLemmas.{bit_cases}

-- what a test of a number for 0 tells
pub ne-true : (n : ℕ) → not (n == 0) ≡ true → 0 < n
ne-true n is = elim (same_or_not n 0) [
  | inl none ↦ absurd (let e : (n == 0) ≡ true = eq_same n 0 none in false≢true (sym (ap not e) ∙ is))
  | inr some ↦ omega (arith, some)
]

pub ne-false : (n : ℕ) → not (n == 0) ≡ false → n ≡ 0
ne-false n is = elim (same_or_not n 0) [
  | inl none ↦ none
  | inr some ↦ absurd (let e : (n == 0) ≡ false = eq_other n 0 some in false≢true (sym is ∙ ap not e))
]

-- the bits of both words
both-bits : (x y b : ℕ) → bit_is_set (bit_and x y) b ≡ (bit_is_set x b && bit_is_set y b)
both-bits x y b =
    let both = bit_at_and x y b in
    elim (bit_cases x b) [
      | inl on ↦ elim (bit_cases y b) [
        | inl too ↦ rw (one-is-set x b on, one-is-set y b too) (one-is-set (bit_and x y) b (omega (arith, both, on, too)))
        | inr off ↦ rw (one-is-set x b on, zero-is-clear y b off) (zero-is-clear (bit_and x y) b (omega (arith, both, on, off)))
      ]
      | inr off ↦ rw (zero-is-clear x b off) (zero-is-clear (bit_and x y) b (omega (arith, both, off)))
    ]

module _ (holds : ℕ → Bool) (p x w : ℕ) (is : (b : ℕ) → b < 64 → bit_is_set w b ≡ holds (64 * p + b)) where
  kept-bits : (b : ℕ) → b < 64 → bit_is_set (bit_and x w) b ≡ (bit_is_set x b && holds (64 * p + b))
  kept-bits b small = both-bits x w b ∙ ap (λ t. bit_is_set x b && t) (is b small)

  -- a word that is left, and one that is taken out
  pub word-kept : (n : ℕ) → n ≡ bit_and x w → 0 < n → n < 2 ^ 64 → IsKeptWord holds p x (Some n)
  word-kept n n-is some fits = record {
    bits = λ b small. ap (λ v. bit_is_set v b) n-is ∙ kept-bits b small;
    nonzero = λ v same. let e : n ≡ v = same_Some n v same in (omega (arith, e, some), omega (arith, e, fits));
  }

  pub word-gone : (n : ℕ) → n ≡ bit_and x w → n ≡ 0 → IsKeptWord holds p x None
  word-gone n n-is none = record {
    bits = λ b small. ap (λ v. bit_is_set v b) (sym none ∙ n-is) ∙ kept-bits b small;
    nonzero = λ v same. absurd (none-some v same);
  }

-- no word is left at a position where the set has nothing
pub word-none : (holds : ℕ → Bool) (p x : ℕ) → ((b : ℕ) → b < 64 → holds (64 * p + b) ≡ false) → IsKeptWord holds p x None
word-none holds p x none = record {
  bits = λ b small. none-set b ∙ sym (ap (λ t. bit_is_set x b && t) (none b small) ∙ and-false (bit_is_set x b));
  nonzero = λ v same. absurd (none-some v same);
}

-- the same by another set with the same members there
pub word-same : (holds other : ℕ → Bool) (p x : ℕ) (left : Option ℕ) → ((b : ℕ) → b < 64 → holds (64 * p + b) ≡ other (64 * p + b))
    → IsKeptWord holds p x left → IsKeptWord other p x left
word-same holds other p x left same is = record {
  bits = λ b small. is.bits b small ∙ ap (λ t. bit_is_set x b && t) (same b small);
  nonzero = is.nonzero;
}

-- The words of a lawful set.
module _ (holds : ℕ → Bool) (word : ℕ → ℕ → ℕ) (lawful : IsLawful LAYERS holds word) where
  pub members-of_word : (p w : ℕ) → p < 16777216 → w ≡ word 0 p → (b : ℕ) → b < 64 → bit_is_set w b ≡ holds (64 * p + b)
  members-of_word p w low is b small = ap (λ v. bit_is_set v b) is ∙ holds-by_word holds word lawful p b low small

  none-of_zero : (p : ℕ) → p < 16777216 → word 0 p ≡ 0 → (b : ℕ) → b < 64 → holds (64 * p + b) ≡ false
  none-of_zero p low none b small = sym (members-of_word p 0 low (sym none) b small) ∙ none-set b

  pub none-in_group : (c q b x : ℕ) → c < 4096 → q < 64 → b < 64 → bit_at (word 1 (64 * c + q)) b ≡ 0 → IsKeptWord holds (4096 * c + (64 * q + b)) x None
  none-in_group c q b x low small few off =
      let place : 64 * (64 * c + q) + b ≡ 4096 * c + (64 * q + b) = omega arith in
      let none : word 0 (4096 * c + (64 * q + b)) ≡ 0 = rw place at (clear-in_group holds word lawful (64 * c + q) b (omega (arith, low, small)) few off) in
      word-none holds (4096 * c + (64 * q + b)) x (none-of_zero (4096 * c + (64 * q + b)) (omega (arith, low, small, few)) none)

  pub none-in_chunk : (c q b x : ℕ) → c < 4096 → q < 64 → b < 64 → bit_at (word 2 c) q ≡ 0 → IsKeptWord holds (4096 * c + (64 * q + b)) x None
  none-in_chunk c q b x low small few off =
      let row : (64 * q + b) / 64 ≡ q = omega (arith, few) in
      let clear : bit_at (word 2 c) ((64 * q + b) / 64) ≡ 0 = rw row off in
      let none = clear-in_chunk holds word lawful c (64 * q + b) low (omega (arith, small, few)) clear in
      word-none holds (4096 * c + (64 * q + b)) x (none-of_zero (4096 * c + (64 * q + b)) (omega (arith, low, small, few)) none)

  -- of a set of the indices of one group, whichever group it is
  pub none-in_view : (q b x : ℕ) → q < 64 → b < 64 → bit_at (word 1 0) b ≡ 0 → IsKeptWord (λ j. holds (j % 4096)) (64 * q + b) x None
  none-in_view q b x small few off =
      let place : 64 * 0 + b ≡ b = omega arith in
      let none : word 0 b ≡ 0 = rw place at (clear-in_group holds word lawful 0 b (omega arith) few off) in
      word-none (λ j. holds (j % 4096)) (64 * q + b) x (λ a less. ap holds (omega (arith, few, less)) ∙ none-of_zero b (omega (arith, few)) none a less)

  -- nor under a clear bit of a group
  pub none-in_word : (c q b a : ℕ) → c < 4096 → q < 64 → b < 64 → a < 64 → bit_at (word 1 (64 * c + q)) b ≡ 0 → holds (64 * (4096 * c + (64 * q + b)) + a) ≡ false
  none-in_word c q b a low small few less off =
      let place : 64 * (64 * c + q) + b ≡ 4096 * c + (64 * q + b) = omega arith in
      let none : word 0 (4096 * c + (64 * q + b)) ≡ 0 = rw place at (clear-in_group holds word lawful (64 * c + q) b (omega (arith, low, small)) few off) in
      none-of_zero (4096 * c + (64 * q + b)) (omega (arith, low, small, few)) none a less

  pub view-word : (i w : ℕ) → i < 4096 → w ≡ word 0 (i % 64) → (b : ℕ) → b < 64 → bit_is_set w b ≡ holds ((64 * i + b) % 4096)
  view-word i w low is b small = members-of_word (i % 64) w (omega arith) is b small ∙ ap holds (omega (arith, small))

  pub none-under_zero : (c i : ℕ) → c < 4096 → i < 262144 → word 2 c ≡ 0 → holds (262144 * c + i) ≡ false
  none-under_zero c i low small none =
      let clear : bit_at (word 2 c) (i / 64 / 64) ≡ 0 = ap (λ w. bit_at w (i / 64 / 64)) none ∙ bit_at-zero (i / 64 / 64) in
      let zero_word = clear-in_chunk holds word lawful c (i / 64) low (omega (arith, small)) clear in
      let place : 64 * (4096 * c + i / 64) + i % 64 ≡ 262144 * c + i = omega arith in
      rw place at (none-of_zero (4096 * c + i / 64) (omega (arith, low, small)) zero_word (i % 64) (omega arith))

-- what is left by one relation is left by another
pub retained-as : (T : Type 0) (first second : ℕ → T → Option T → Type 0) (word start to kept : ℕ) (old new : List T)
    → ((b : ℕ) (x : T) (o : Option T) → b < 64 → first b x o → second b x o)
    → IsRetained first word start to kept old new → IsRetained second word start to kept old new
retained-as T first second word start to kept old new weaker is = record {
  left = λ b small. by b small (item_from old start word b) (is.left b small);
  fewer = is.fewer;
  before = is.before;
  behind = is.behind;
  length = is.length;
}
  where
    by : (b : ℕ) → b < 64 → (o : Option T) → LeavesOf (first b) o (item_from new to kept b) → LeavesOf (second b) o (item_from new to kept b)
    by b small None left = left
    by b small (Some x) left = weaker b x (item_from new to kept b) small left

-- no word that is left is 0
pub kept-nonzero : (leaves : ℕ → ℕ → Option ℕ → Type 0) (old new : Table ℕ) → AreNonzero old
    → ((p w : ℕ) (left : Option ℕ) → leaves p w left → 0 < w → w < 2 ^ 64 → (v : ℕ) → left ≡ Some v → (0 < v) × (v < 2 ^ 64))
    → ((p : ℕ) → p < 4096 → LeavesOf (leaves p) (value_at old p) (value_at new p)) → AreNonzero new
kept-nonzero leaves old new whole nonzero are p v low is = by (value_at old p) refl (are p low)
  where
    by : (o : Option ℕ) → value_at old p ≡ o → LeavesOf (leaves p) o (value_at new p) → (0 < v) × (v < 2 ^ 64)
    by None e none = absurd (none-some v (sym none ∙ is))
    by (Some w) e left = let n = whole p w low e in nonzero p w (value_at new p) left n.0 n.1 v is

-- the words of a chunk are not 0
pub of-nonzero : (leaves : ℕ → ℕ → Option ℕ → Type 0) (old : Chunk) (new : Table ℕ)
    → ((p : ℕ) → p < 4096 → LeavesOf (λ w o. 0 < w → w < 2 ^ 64 → leaves p w o) (value_at old.words p) (value_at new p))
    → (p : ℕ) → p < 4096 → LeavesOf (leaves p) (value_at old.words p) (value_at new p)
of-nonzero leaves old new are p low = by (value_at old.words p) refl (are p low)
  where
    by : (o : Option ℕ) → value_at old.words p ≡ o → LeavesOf (λ w o. 0 < w → w < 2 ^ 64 → leaves p w o) o (value_at new p)
        → LeavesOf (leaves p) o (value_at new p)
    by None e none = none
    by (Some w) e left = let n = old.nonzero p w low e in left n.0 n.1

all-stay : (s t : Bool) → t ≡ true → s ≡ (s && t)
all-stay true t on = sym on
all-stay false t on = refl

-- No word of a group loses a bit, so all stay where they lie.
pub none-taken : (holds : ℕ → Bool) (place : ℕ → ℕ) (word start to : ℕ) (items : List ℕ) → to ≡ start
    → ((b a : ℕ) → b < 64 → a < 64 → bit_at word b ≡ 1 → holds (64 * place b + a) ≡ true)
    → IsRetained (λ b. IsKeptOfNonzero holds (place b)) word start to word items items
none-taken holds place word start to items to-is all = record {
  left = λ b small. elim (bit_cases word b) [
    | inl on ↦ subst (λ t. LeavesOf (IsKeptOfNonzero holds (place b)) (item_from items start word b) (item_from items t word b)) (sym to-is)
        (by b small on (item_from items start word b))
    | inr off ↦ subst (λ o. LeavesOf (IsKeptOfNonzero holds (place b)) o (item_from items to word b)) (sym (none b off start)) (none b off to)
  ];
  fewer = omega arith;
  before = λ k low. refl;
  behind = λ k low. refl;
  length = refl;
}
  where
    none : (b : ℕ) → bit_at word b ≡ 0 → (s : ℕ) → item_from items s word b ≡ None
    none b off s = value-off (λ k. slice_get items (s + k)) word b (zero-is-clear word b off)

    by : (b : ℕ) → b < 64 → bit_at word b ≡ 1 → (o : Option ℕ) → LeavesOf (IsKeptOfNonzero holds (place b)) o o
    by b small on None = refl
    by b small on (Some x) = λ some fits. record {
      bits = λ a few. all-stay (bit_is_set x a) (holds (64 * place b + a)) (all b a small few on);
      nonzero = λ v same. let e : x ≡ v = same_Some x v same in (omega (arith, e, some), omega (arith, e, fits));
    }

-- a bit of one of two words that have none in common is clear in the other
pub apart : (v w b : ℕ) → bit_and v w ≡ 0 → bit_at v b ≡ 1 → bit_at w b ≡ 0
apart v w b none on =
    let both = bit_at_and v w b in
    let zero_bit : bit_at (bit_and v w) b ≡ 0 = ap (λ x. bit_at x b) none ∙ bit_at-zero b in
    let small = bit_at-lt w b in
    omega (arith, both, zero_bit, on, small)

-- the words of a chunk
module _ (holds : ℕ → Bool) (first : ℕ) (old new : Chunk)
    (are : (p : ℕ) → p < 4096 → LeavesOf (IsKeptWord holds (first + p)) (value_at old.words p) (value_at new.words p)) where
  pub index-kept : (i : ℕ) → i < 262144 → has_in new i ≡ (has_in old i && holds (64 * first + i))
  index-kept i low = by (value_at old.words (i / 64)) (are (i / 64) (omega (arith, low)))
    where
      by : (o : Option ℕ) → LeavesOf (IsKeptWord holds (first + i / 64)) o (value_at new.words (i / 64))
          → has_in new i ≡ (bit_is_set (or_zero o) (i % 64) && holds (64 * first + i))
      by None none = ap (λ o. bit_is_set (or_zero o) (i % 64)) none ∙ (none-set (i % 64) ∙ sym (ap (λ t. t && holds (64 * first + i)) (none-set (i % 64))))
      by (Some w) is =
          let place : 64 * (first + i / 64) + i % 64 ≡ 64 * first + i = omega arith in
          is.bits (i % 64) (omega arith) ∙ ap (λ j. bit_is_set w (i % 64) && holds j) place

-- the same where the words' positions are those of the chunk
pub index-kept_here : (holds : ℕ → Bool) (old new : Chunk) → ((p : ℕ) → p < 4096 → LeavesOf (IsKeptWord holds p) (value_at old.words p) (value_at new.words p))
    → (i : ℕ) → i < 262144 → has_in new i ≡ (has_in old i && holds i)
index-kept_here holds old new are i low =
    index-kept holds 0 old new (λ p small. subst (λ k. LeavesOf (IsKeptWord holds k) (value_at old.words p) (value_at new.words p)) (first p) (are p small)) i low
    ∙ ap (λ j. has_in old i && holds j) (omega arith)
  where
    first : (p : ℕ) → p ≡ 0 + p
    first p = omega arith

module _ (holds : ℕ → Bool) (c : ℕ) (old : Chunk) where
  -- a chunk that is left, and one that is taken out
  module _ (new : Chunk) (is : (i : ℕ) → i < 262144 → has_in new i ≡ (has_in old i && holds (262144 * c + i))) where
    pub chunk-kept : 0 < new.words.groups.word → IsKeptChunk holds c old (Some new)
    chunk-kept some = record {
      members = λ x i same low. ap (λ y. has_in y i) (sym (same_Some new x same)) ∙ is i low;
      none = λ i same low. absurd (none-some new (sym same));
      full = λ x same. subst (λ y. 0 < y.words.groups.word) (same_Some new x same) some;
    }

    pub chunk-gone : new.words.groups.word ≡ 0 → IsKeptChunk holds c old None
    chunk-gone none = record {
      members = λ x i same low. absurd (none-some x same);
      none = λ i same low. sym (is i low) ∙ root-none new none i;
      full = λ x same. absurd (none-some x same);
    }

  -- none of a chunk is left where the set has none of its indices
  pub chunk-none : ((i : ℕ) → i < 262144 → holds (262144 * c + i) ≡ false) → IsKeptChunk holds c old None
  chunk-none none = record {
    members = λ x i same low. absurd (none-some x same);
    none = λ i same low. ap (λ t. has_in old i && t) (none i low) ∙ and-false (has_in old i);
    full = λ x same. absurd (none-some x same);
  }

-- all of a chunk is left where another set has none of its indices
pub all-kept : (a b : Bool) → b ≡ false → a ≡ (a && not b)
all-kept true b off = sym (ap not off)
all-kept false b off = refl

-- the chunks of a set
module _ (holds : ℕ → Bool) (old new : Table Chunk) (are : (c : ℕ) → c < 4096 → LeavesOf (IsKeptChunk holds c) (value_at old c) (value_at new c)) where
  pub members-kept : (i : ℕ) → i < 2 ^ 30 → holds_at (word_in new) i ≡ (holds_at (word_in old) i && holds i)
  members-kept i low =
      holds-under new i ∙ (by (value_at old (i / 262144)) (value_at new (i / 262144)) refl (are (i / 262144) (omega (arith, low)))
      ∙ ap (λ t. t && holds i) (sym (holds-under old i)))
    where
      whole : 262144 * (i / 262144) + i % 262144 ≡ i
      whole = omega arith

      by : (o n : Option Chunk) → value_at new (i / 262144) ≡ n → LeavesOf (IsKeptChunk holds (i / 262144)) o n
          → has_under (value_at new (i / 262144)) (i % 262144) ≡ (has_under o (i % 262144) && holds i)
      by None n same none = ap (λ x. has_under x (i % 262144)) (same ∙ none) ∙ (none-under (i % 262144) ∙ sym (ap (λ t. t && holds i) (none-under (i % 262144))))
      by (Some x) None same is =
          ap (λ y. has_under y (i % 262144)) same ∙ (none-under (i % 262144)
          ∙ sym (ap (λ j. has_in x (i % 262144) && holds j) (sym whole) ∙ is.none (i % 262144) refl (omega arith)))
      by (Some x) (Some y) same is =
          ap (λ z. has_under z (i % 262144)) same ∙ (is.members y (i % 262144) refl (omega arith) ∙ ap (λ j. has_in x (i % 262144) && holds j) whole)

-- no chunk that is left is empty
pub kept-full : (leaves : ℕ → Chunk → Option Chunk → Type 0) (old new : Table Chunk)
    → ((c : ℕ) (chunk : Chunk) (left : Option Chunk) → leaves c chunk left → (x : Chunk) → left ≡ Some x → 0 < x.words.groups.word)
    → ((c : ℕ) → c < 4096 → LeavesOf (leaves c) (value_at old c) (value_at new c)) → AreFull new
kept-full leaves old new full are c x low is = by (value_at old c) (are c low)
  where
    by : (o : Option Chunk) → LeavesOf (leaves c) o (value_at new c) → 0 < x.words.groups.word
    by None none = absurd (none-some x (sym none ∙ is))
    by (Some y) left = full c y (value_at new c) left x is

-- the members of a set, all of them
pub set-kept : (holds : ℕ → Bool) (old new : SparseBitSet) → ((c : ℕ) → c < 4096 → LeavesOf (IsKeptChunk holds c) (value_at old.chunks c) (value_at new.chunks c))
    → (i : ℕ) → has new i ≡ (has old i && holds i)
unfolding has word_of
set-kept holds old new are i = elim (cases_lt i (2 ^ 30)) [
  | inl low ↦ members-kept holds old.chunks new.chunks are i low
  | inr past ↦ none-past new i past ∙ sym (ap (λ t. t && holds i) (none-past old i past))
]

-- what is there of a chunk, or nothing
pub under-or : (o : Option Chunk) (i : ℕ) → has_under o (i % 262144) ≡ has_in_or o i false
under-or None i = none-under (i % 262144)
under-or (Some chunk) i = refl
