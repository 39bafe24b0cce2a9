-- What a read of a walk over a world does, in a user's words.
use Rattle.std.proofs.Common.{◌≡◌, ◌⊎◌, inl, inr, ℕ, zero, suc, ◌+◌, ◌-◌, ◌*◌, ◌/◌, ◌%◌, ◌^◌, ◌<◌, ◌≤◌, Bool, true, false, List, [], ◌∷◌, length, Contains, Option, Some, None, refl, sym, ap, subst, ◌∙◌, arith, length-append}
use Rattle.std.specs.Int.{bit_at}
use Rattle.std.specs.List.Sorted.{IsStrictlyIncreasing}
use Rattle.std.proofs.lemmas.Bool.{or_cases, or_right}
use Rattle.std.proofs.lemmas.Nat.Bits.{bit_at-zero}
use Rattle.std.proofs.Math.Nat.{eq-or-lt_of_le}
use Rattle.hibitset_base.specs.Decisions.{eq_same}
use Rattle.hibitset_base.specs.Sets.{bit_of}
use Rattle.hibitset_base.specs.Places.{Place}
use Rattle.hibitset_atomic.specs.declared.steps.event.Event.{Event}
use Rattle.hibitset_atomic.specs.declared.steps.event.Event.TheVariants.{Begin, Step, Open, Read}
use Rattle.hibitset_atomic.specs.declared.steps.event.Reply.TheVariants.{Word}
use Rattle.hibitset_atomic.specs.Lists.{Has}
use Rattle.hibitset_atomic.proofs.ListLemmas.{contains-from_has, has-from_contains}
use Rattle.hibitset_atomic.specs.History.{some_in, has_passed, is_there, bit_of_history, Walk, new_walk, bits, read_word, read_first, reads_on, walk_of}
use Rattle.hibitset_atomic.specs.HistoryFacts.{Between, IsFirst, IsNext, is_finished, finished_before, WasThere, IsWithin, HasBits}
use Rattle.hibitset_atomic.specs.Replies.{IsWord, ReadAnswer}
use Rattle.hibitset_atomic.proofs.SpanLemmas.{some_in-found, between-has, members-between, members-has, members-holds}
use Rattle.hibitset_atomic.proofs.HistoryBitLemmas.{came-stays, passed_below}
use Rattle.hibitset_atomic.proofs.WorldStepLemmas.{stands-lowest}
use Rattle.hibitset_atomic.proofs.ListLemmas.{has_split}
use Rattle.uses_tests.specs.Turns.{items_or_none, reads_or_none, left_or_none, HasLeaf}

-- ---- lists

pub increasing : (a b : ℕ) (xs : List ℕ) → Between a b xs → IsStrictlyIncreasing xs
increasing a b [] h k below = absurd (omega arith)
increasing a b (x ∷ []) h k below = absurd (omega arith)
increasing a b (x ∷ y ∷ ys) h zero below = let l = h.1.0 in omega (arith, l)
increasing a b (x ∷ y ∷ ys) h (suc k) below =
    let next : suc k + 1 ≡ suc (k + 1) = omega arith in
    rw next (increasing (suc x) b (y ∷ ys) h.1 k (omega arith))

pub few_between : (a b : ℕ) (xs : List ℕ) → Between a b xs → a + length xs ≤ b
few_between a b [] h = omega (arith, h)
few_between a b (x ∷ xs) h = let l = few_between (suc x) b xs h.1 in let k = h.0 in omega (arith, l, k)

-- ---- bits

pub bit_stands : (b : Bool) → bit_of b ≡ 1 → b ≡ true
bit_stands true h = refl
bit_stands false h = absurd (let k : 0 ≡ 1 = h in omega (arith, k))

pub stands_bit : (b : Bool) → b ≡ true → bit_of b ≡ 1
stands_bit b h = ap bit_of h

some_bit : (word b : ℕ) → bit_at word b ≡ 1 → 0 < word
some_bit word b on = elim (eq-or-lt_of_le (let z : 0 ≤ word = omega arith in z)) [
  | inl e ↦ absurd (let none : bit_at word b ≡ 0 = ap (λ w. bit_at w b) (sym e) ∙ bit_at-zero b in omega (arith, none, on))
  | inr some ↦ some
]

-- ---- the first word of a walk

module _ (standing : ℕ → ℕ → Bool) where
  -- a bit of the top word is set over an index
  pub found_under : ((l q : ℕ) → standing (l + 1) q ≡ true → some_in (standing l) (64 * q) 64 ≡ true) → (range : ℕ) → standing 3 range ≡ true → (i : ℕ) × (i / 262144 ≡ range) × (standing 0 i ≡ true)
  found_under hollow range on =
      let third = some_in-found (standing 2) (64 * range) 64 (hollow 2 range on) in
      let second = some_in-found (standing 1) (64 * third.at) 64 (hollow 1 third.at third.holds) in
      let first = some_in-found (standing 0) (64 * second.at) 64 (hollow 0 second.at second.holds) in
      let a = third.from in let b = third.below in let c = second.from in let d = second.below in let e = first.from in let f = first.below in
      (first.at, omega (arith, a, b, c, d, e, f), first.holds)

  -- at rest the bits over an index are set
  pub stands_over : ((l q : ℕ) → l + 1 < 4 → standing l q ≡ true → standing (l + 1) (q / 64) ≡ true) → (i range : ℕ) → i / 262144 ≡ range → standing 0 i ≡ true → standing 3 range ≡ true
  stands_over exact i range at on =
      let top = exact 2 (i / 64 / 64) (omega arith) (exact 1 (i / 64) (omega arith) (exact 0 i (omega arith) on)) in
      let way : i / 64 / 64 / 64 ≡ range = omega (arith, at) in
      subst (λ q. standing 3 q ≡ true) way top

-- ---- any word of a walk

module _ (old : ℕ → Bool) (past : List Event) (word : ℕ) (ended : Bool) where
  -- a word over which a bit is set is not 0
  word_some : (left : List Place) → IsWord (bit_of_history old past) left word → HasBits (bit_of_history old past) left → 0 < word
  word_some [] is some = absurd is
  word_some (p ∷ ps) is some =
      let f = some_in-found (bit_of_history old past p.layer) (64 * p.position) 64 some in
      let b = f.at - 64 * p.position in
      let from = f.from in
      let below = f.below in
      let place : 64 * p.position + b ≡ f.at = omega (arith, from) in
      let on : bit_at word b ≡ bit_of (bit_of_history old past p.layer f.at) = rw place at (is b (omega (arith, from, below))) in
      some_bit word b (on ∙ stands_bit (bit_of_history old past p.layer f.at) f.holds)

  pub read_some : (walk : Option Walk) → ReadAnswer old past walk (Word word ended) → ((v : Walk) → walk ≡ Some v → 0 < v.reads → HasBits (bit_of_history old past) v.left) → 0 < reads_or_none walk → 0 < word
  read_some None h some began = absurd h
  read_some (Some v) h some began = word_some v.left h.0 (some v refl began)

  -- the bit of an index that comes by a word of layer 0
  leaf_bit : (position i : ℕ) → ((b : ℕ) → b < 64 → bit_at word b ≡ bit_of (bit_of_history old past 0 (64 * position + b))) → Has (bits (bit_of_history old past) 0 position) i → bit_at word (i % 64) ≡ 1
  leaf_bit position i is has =
      let between = between-has (64 * position) (64 * position + 64) i (bits (bit_of_history old past) 0 position) (members-between (bit_of_history old past 0) (64 * position) 64) has in
      let from = between.0 in
      let below = between.1 in
      let on = members-holds (bit_of_history old past 0) (64 * position) 64 i has in
      let place : 64 * position + i % 64 ≡ i = omega (arith, from, below) in
      let bit : bit_at word (i % 64) ≡ bit_of (bit_of_history old past 0 i) = rw place at (is (i % 64) (omega arith)) in
      bit ∙ stands_bit (bit_of_history old past 0 i) on

  more_items : (items : List ℕ) (reads layer position : ℕ) (rest : List Place) (i : ℕ) → ((b : ℕ) → b < 64 → bit_at word b ≡ bit_of (bit_of_history old past layer (64 * position + b)))
      → Has (read_word (bit_of_history old past) items reads layer position rest).items i → Has items i ⊎ (bit_at word (i % 64) ≡ 1)
  more_items items reads zero position rest i is has = elim (has_split items (bits (bit_of_history old past) 0 position) i has) [
    | inl before ↦ inl before
    | inr new ↦ inr (leaf_bit position i is new)
  ]
  more_items items reads (suc layer) position rest i is has = inl has

  items_after : (v : Walk) (left : List Place) (i : ℕ) → IsWord (bit_of_history old past) left word → Has (read_first (bit_of_history old past) v.items v.reads left).items i → Has v.items i ⊎ (bit_at word (i % 64) ≡ 1)
  items_after v [] i is has = absurd is
  items_after v (p ∷ ps) i is has = more_items v.items v.reads p.layer p.position ps i is has

  pub read_holds : (walk : Option Walk) → ReadAnswer old past walk (Word word ended) → (i : ℕ) → Contains (items_or_none (reads_on (bit_of_history old past) walk)) i → Contains (items_or_none walk) i ⊎ (bit_at word (i % 64) ≡ 1)
  read_holds None h i c = absurd h
  read_holds (Some v) h i c = elim (items_after v v.left i h.0 (has-from_contains (read_first (bit_of_history old past) v.items v.reads v.left).items i c)) [
    | inl before ↦ inl (contains-from_has v.items i before)
    | inr bit ↦ inr bit
  ]

-- ---- a walk that is read on

-- the walk of a number after an opening, and after a read
pub opened : (n : ℕ) (old : ℕ → Bool) (past : List Event) (w : ℕ) → walk_of n old (Open w ∷ past) w ≡ Some (new_walk n)
opened n old past w = rw (eq_same w w refl) refl

pub read_on : (n : ℕ) (old : ℕ → Bool) (past : List Event) (w : ℕ) → walk_of n old (Read w ∷ past) w ≡ reads_on (bit_of_history old past) (walk_of n old past w)
read_on n old past w = rw (eq_same w w refl) refl

one_more : (standing : ℕ → ℕ → Bool) (items : List ℕ) (reads layer position : ℕ) (rest : List Place) → (read_word standing items reads layer position rest).reads ≡ reads + 1
one_more standing items reads zero position rest = refl
one_more standing items reads (suc layer) position rest = refl

reads_more : (standing : ℕ → ℕ → Bool) (v : Walk) (left : List Place) (word : ℕ) → IsWord standing left word → (read_first standing v.items v.reads left).reads ≡ v.reads + 1
reads_more standing v [] word is = absurd is
reads_more standing v (p ∷ ps) word is = one_more standing v.items v.reads p.layer p.position ps

-- What a read of a walk that there is does: it has one word more, and its answer tells whether it has ended.
pub record ReadsOn (later_old : ℕ → Bool) (later : List Event) (w reads : ℕ) (ended : Bool) : Type 0 where
  pub walk : Walk
  pub is : walk_of 4 later_old later w ≡ Some walk
  pub more : walk.reads ≡ reads + 1
  pub last : ended ≡ true → walk.left ≡ []

pub reads_one : (old later_old : ℕ → Bool) (past later : List Event) (w : ℕ) (v : Walk) (word : ℕ) (ended : Bool) → later_old ≡ old → later ≡ Read w ∷ past → walk_of 4 old past w ≡ Some v → ReadAnswer old past (walk_of 4 old past w) (Word word ended)
    → ReadsOn later_old later w v.reads ended
reads_one old later_old past later w v word ended e f is answer =
    let h : ReadAnswer old past (Some v) (Word word ended) = subst (λ x. ReadAnswer old past x (Word word ended)) is answer in
    let walks : walk_of 4 later_old later w ≡ reads_on (bit_of_history old past) (walk_of 4 old past w) = rw (e, f) (read_on 4 old past w) in
    record {
      walk = read_first (bit_of_history old past) v.items v.reads v.left;
      is = walks ∙ ap (reads_on (bit_of_history old past)) is;
      more = reads_more (bit_of_history old past) v v.left word h.0;
      last = λ yes. h.1.0 yes;
    }

-- a walk that was just opened
pub opened_by : (old : ℕ → Bool) (past later : List Event) (w : ℕ) → later ≡ Open w ∷ past → walk_of 4 old later w ≡ Some (new_walk 4)
opened_by old past later w f = rw f (opened 4 old past w)

-- no walk reads more words
pub few_reads : (items : List ℕ) (reads : ℕ) (left : List Place) → IsWithin 4 (length items) reads left → Between 0 (64 ^ 4) items → reads < 3 * 16777216 + 4
few_reads items reads [] few between = let l = few_between 0 (64 ^ 4) items between in omega (arith, few, l)
few_reads items reads (p ∷ ps) few between = let l = few_between 0 (64 ^ 4) items between in omega (arith, few, l)

-- what was there when it was read is there now
pub there_now : (n : ℕ) (old : ℕ → Bool) (past : List Event) (w i : ℕ) → WasThere n old past w i → is_there old past i ≡ true
there_now n old [] w i h = absurd h
there_now n old (Begin number index ∷ past) w i h = elim h [ inl here ↦ absurd here | inr before ↦ there_now n old past w i before ]
there_now n old (Open number ∷ past) w i h = elim h [ inl here ↦ absurd here | inr before ↦ there_now n old past w i before ]
there_now n old (Step number ∷ past) w i h = elim h [ inl here ↦ absurd here | inr before ↦ came-stays old (Step number) past 0 i (there_now n old past w i before) ]
there_now n old (Read number ∷ past) w i h = elim h [ inl here ↦ sym (stands-lowest old past i) ∙ here.3 | inr before ↦ there_now n old past w i before ]

-- what was done when a walk opened was so before it
pub done_before : (old later_old : ℕ → Bool) (past later : List Event) (w i : ℕ) → later_old ≡ old → later ≡ Open w ∷ past → is_finished 4 old past i ≡ true → finished_before 4 later_old later w i ≡ true
done_before old later_old past later w i e f h =
    let here : finished_before 4 old (Open w ∷ past) w i ≡ true = rw (eq_same w w refl) h in
    let there : finished_before 4 old later w i ≡ true = subst (λ p. finished_before 4 old p w i ≡ true) (sym f) here in
    subst (λ o. finished_before 4 o later w i ≡ true) (sym e) there

-- and is so after a read
pub still_before : (old later_old : ℕ → Bool) (past later : List Event) (w i : ℕ) → later_old ≡ old → later ≡ Read w ∷ past → finished_before 4 old past w i ≡ true → finished_before 4 later_old later w i ≡ true
still_before old later_old past later w i e f h =
    let there : finished_before 4 old later w i ≡ true = subst (λ p. finished_before 4 old p w i ≡ true) (sym f) h in
    subst (λ o. finished_before 4 o later w i ≡ true) (sym e) there

-- what is done is there
pub done_is_there : (old : ℕ → Bool) (past : List Event) (i : ℕ) → is_finished 4 old past i ≡ true → is_there old past i ≡ true
done_is_there old past i h = elim (or_cases (old i) (has_passed past 3 i) h) [
  | inl was ↦ rw was refl
  | inr new ↦ or_right (old i) (has_passed past 0 i) (passed_below past 3 0 i (omega arith) new)
]

-- ---- a world at rest

-- a bit of layer 0 is set exactly over an index that is there
pub lowest_is : (old : ℕ → Bool) (past : List Event) (i : ℕ) → bit_of_history old past 0 i ≡ is_there old past i
lowest_is old past i = stands-lowest old past i

path_of : (standing : ℕ → ℕ → Bool) (i : ℕ) → standing 0 i ≡ true → standing 1 (i / 64) ≡ true → standing 2 (i / 64 / 64) ≡ true → standing 3 (i / 64 / 64 / 64) ≡ true → (l : ℕ) → l < 4 → standing l (i / 64 ^ l) ≡ true
path_of standing i a b c d zero below = let e : i ≡ i / 1 = omega arith in subst (λ q. standing 0 q ≡ true) e a
path_of standing i a b c d (suc zero) below = b
path_of standing i a b c d (suc (suc zero)) below = let e : i / 64 / 64 ≡ i / 4096 = omega arith in subst (λ q. standing 2 q ≡ true) e c
path_of standing i a b c d (suc (suc (suc zero))) below = let e : i / 64 / 64 / 64 ≡ i / 262144 = omega arith in subst (λ q. standing 3 q ≡ true) e d
path_of standing i a b c d (suc (suc (suc (suc l)))) below = absurd (omega (arith, below))

-- at rest the whole path of an index that is there stands
pub whole_path : (standing : ℕ → ℕ → Bool) → ((l q : ℕ) → l + 1 < 4 → standing l q ≡ true → standing (l + 1) (q / 64) ≡ true) → (i : ℕ) → standing 0 i ≡ true → (l : ℕ) → l < 4 → standing l (i / 64 ^ l) ≡ true
whole_path standing exact i on =
    let first = exact 0 i (omega arith) on in
    let second = exact 1 (i / 64) (omega arith) first in
    let third = exact 2 (i / 64 / 64) (omega arith) second in
    path_of standing i on first second third

-- the first word of a walk over a past
pub first_word : (old later_old : ℕ → Bool) (past later : List Event) (w word : ℕ) (ended : Bool) → later_old ≡ old → later ≡ Open w ∷ past → ReadAnswer later_old later (walk_of 4 later_old later w) (Word word ended)
    → (b : ℕ) → b < 64 → bit_at word b ≡ bit_of (bit_of_history old past 3 b)
first_word old later_old past later w word ended e f answer b below =
    let g : ReadAnswer old later (walk_of 4 old later w) (Word word ended) = subst (λ o. ReadAnswer o later (walk_of 4 o later w) (Word word ended)) e answer in
    let h : ReadAnswer old (Open w ∷ past) (walk_of 4 old (Open w ∷ past) w) (Word word ended) = subst (λ p. ReadAnswer old p (walk_of 4 old p w) (Word word ended)) f g in
    let k : ReadAnswer old (Open w ∷ past) (Some (new_walk 4)) (Word word ended) = subst (λ v. ReadAnswer old (Open w ∷ past) v (Word word ended)) (opened 4 old past w) h in
    let place : 64 * 0 + b ≡ b = omega arith in
    subst (λ n. bit_at word b ≡ bit_of (bit_of_history old past 3 n)) place (k.0 b below)

-- what a walk gives by a read
pub read_gives : (old later_old : ℕ → Bool) (past later : List Event) (w word : ℕ) (ended : Bool) → later_old ≡ old → later ≡ Read w ∷ past → ReadAnswer old past (walk_of 4 old past w) (Word word ended)
    → (i : ℕ) → Contains (items_or_none (walk_of 4 later_old later w)) i → Contains (items_or_none (walk_of 4 old past w)) i ⊎ (bit_at word (i % 64) ≡ 1)
read_gives old later_old past later w word ended e f answer i has =
    let walks : walk_of 4 later_old later w ≡ reads_on (bit_of_history old past) (walk_of 4 old past w) = rw (e, f) (read_on 4 old past w) in
    let here = rw walks at has in
    read_holds old past word ended (walk_of 4 old past w) answer i here

-- ---- a word of layer 0

first_is_leaf : (p : Place) (ps : List Place) → IsFirst p ps → HasLeaf (p ∷ ps) → p.layer ≡ 0
first_is_leaf p [] h leaf = elim leaf [ inl e ↦ e | inr none ↦ absurd none ]
first_is_leaf p (q ∷ qs) h leaf = elim leaf [
  | inl e ↦ e
  | inr later ↦ elim later [ inl e ↦ (let le = h.0 in omega (arith, le, e)) | inr more ↦ first_is_leaf p qs h.2 (inr more) ]
]

has_some : (xs : List ℕ) (i : ℕ) → Has xs i → 0 < length xs
has_some [] i h = absurd h
has_some (x ∷ xs) i h = omega arith

leaf_gives : (standing : ℕ → ℕ → Bool) (items : List ℕ) (reads layer position : ℕ) (rest : List Place) → layer ≡ 0 → some_in (standing layer) (64 * position) 64 ≡ true → length items < length (read_word standing items reads layer position rest).items
leaf_gives standing items reads zero position rest leaf some =
    let f = some_in-found (standing 0) (64 * position) 64 some in
    let new : 0 < length (bits standing 0 position) = has_some (bits standing 0 position) f.at (members-has (standing 0) (64 * position) 64 f.at f.holds f.from f.below) in
    let long = length-append items (bits standing 0 position) in
    omega (arith, new, long)
leaf_gives standing items reads (suc layer) position rest leaf some = absurd (omega (arith, leaf))

next_gives : (standing : ℕ → ℕ → Bool) (v : Walk) (left : List Place) → IsNext left → HasBits standing left → HasLeaf left → length v.items < length (read_first standing v.items v.reads left).items
next_gives standing v [] next some leaf = absurd leaf
next_gives standing v (p ∷ ps) next some leaf = leaf_gives standing v.items v.reads p.layer p.position ps (first_is_leaf p ps next leaf) some

leaf_on : (standing : ℕ → ℕ → Bool) (walk : Option Walk) → ((v : Walk) → walk ≡ Some v → IsNext v.left) → ((v : Walk) → walk ≡ Some v → 0 < v.reads → HasBits standing v.left) → 0 < reads_or_none walk → HasLeaf (left_or_none walk) → length (items_or_none walk) < length (items_or_none (reads_on standing walk))
leaf_on standing None next some began leaf = absurd leaf
leaf_on standing (Some v) next some began leaf = next_gives standing v v.left (next v refl) (some v refl began) leaf

-- A walk that has a word of layer 0 ahead gives an index by its next read.
pub leaf_read : (old later_old : ℕ → Bool) (past later : List Event) (w : ℕ) → later_old ≡ old → later ≡ Read w ∷ past
    → ((v : Walk) → walk_of 4 old past w ≡ Some v → IsNext v.left) → ((v : Walk) → walk_of 4 old past w ≡ Some v → 0 < v.reads → HasBits (bit_of_history old past) v.left)
    → 0 < reads_or_none (walk_of 4 old past w) → HasLeaf (left_or_none (walk_of 4 old past w)) → length (items_or_none (walk_of 4 old past w)) < length (items_or_none (walk_of 4 later_old later w))
leaf_read old later_old past later w e f next some began leaf =
    let walks : walk_of 4 later_old later w ≡ reads_on (bit_of_history old past) (walk_of 4 old past w) = rw (e, f) (read_on 4 old past w) in
    rw walks (leaf_on (bit_of_history old past) (walk_of 4 old past w) next some began leaf)
