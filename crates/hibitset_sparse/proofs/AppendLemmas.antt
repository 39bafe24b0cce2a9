-- Words and groups that are appended one by one, from the lowest up.
use Rattle.std.proofs.Common.{◌≡◌, ℕ, zero, suc, ◌+◌, ◌-◌, ◌/◌, ◌%◌, ◌^◌, ◌<◌, ◌≤◌, ◌==◌, List, [], ◌∷◌, ◌++◌, length, Option, Some, None, refl, sym, ◌∙◌, ap, subst, arith, inl, inr}
use Rattle.std.specs.Prelude.{◌≢◌, if◌then◌else◌, option_and_then}
use Rattle.std.specs.Int.{bit_at}
use Rattle.std.specs.Int.RustNames.{count_ones}
use Rattle.std.specs.List.{insert, slice_get}
use Rattle.std.proofs.lemmas.Bool.{cases_lt, cases_order}
use Rattle.std.proofs.lemmas.Nat.{ones_le_self}
use Rattle.std.proofs.lemmas.Nat.Bits.{bit_at-zero}
use Rattle.std.proofs.lemmas.Option.{same_Some, none-some}
use Rattle.hibitset_base.specs.Decisions.{eq_other, eq_same, same_or_not}
use Rattle.hibitset_sparse.specs.Chunk.{or_zero}
use Rattle.hibitset_sparse.specs.Rank.{rank_in, value_from, IsSetAt}
use Rattle.hibitset_sparse.specs.Layout.{word_or_none, values_before, AreLaidOut, value_by_group, value_of_place}
use Rattle.hibitset_sparse.specs.PackedArray.{value_in}
use Rattle.hibitset_sparse.specs.Parts.{item_from, AreWordsFrom, BeginsWith, IsMadeUpTo}
use Rattle.hibitset_sparse.specs.declared.group.Group.{Group}
use Rattle.hibitset_sparse.specs.declared.packed_array.PackedArray.{PackedArray}
use Rattle.hibitset_sparse.proofs.EditLemmas.{get-insert_below, get-insert_at, get-insert_above}
use Rattle.hibitset_sparse.proofs.RankLemmas.{ones-set, rank-all, rank-most, rank-before, select-below}
use Rattle.hibitset_sparse.proofs.PackedArrayLemmas.{zero-is-clear, value-off, values-insert}
use Rattle.hibitset_sparse.proofs.LayoutLemmas.{before-more, before-none, before-same, from-same, same-group, place-inside}
use Rattle.hibitset_sparse.proofs.WordLemmas.{array-some, bit_cases}

-- no bit from one on is set
abbrev pub HasNoneFrom : ℕ → ℕ → Type 0
HasNoneFrom w b = (c : ℕ) → b ≤ c → c < 64 → bit_at w c ≡ 0

-- all ones lie below such a bit
pub rank-last : (w b : ℕ) → w < 2 ^ 64 → HasNoneFrom w b → rank_in w b ≡ count_ones w
rank-last w b fits none = elim (cases_lt (rank_in w b) (count_ones w)) [
  | inl less ↦ absurd (
      let all = rank-all w fits in
      let found = select-below w 64 (rank_in w b) (omega (arith, less, all)) in
      elim (cases_lt found.0 b) [
        | inl lower ↦ (let before = rank-before w found.0 b lower found.2 in let is = found.3 in omega (arith, before, is))
        | inr above ↦ (let off = none found.0 above found.1 in let on = found.2 in omega (arith, off, on))
      ])
  | inr not_less ↦ (let most = rank-most w b in omega (arith, not_less, most))
]

module _ {T : Type 0} where
  pub insert-last : (xs : List T) (y : T) → insert xs (length xs) y ≡ xs ++ y ∷ []
  insert-last [] y = refl
  insert-last (x ∷ xs) y = ap (λ zs. x ∷ zs) (insert-last xs y)

  -- the values by bits, where one was appended for a bit above all
  pub value-pushed : (v w b start : ℕ) (xs ys : List T) (y : T) → IsSetAt v w b → w < 2 ^ 64 → HasNoneFrom w b → length xs ≡ start + count_ones w
      → ys ≡ xs ++ y ∷ []
      → (c : ℕ) → c < 64 → value_from (λ k. slice_get ys (start + k)) v c ≡ (if c == b then Some y else value_from (λ k. slice_get xs (start + k)) w c)
  value-pushed v w b start xs ys y is fits none counted pushed =
      let put : ys ≡ insert xs (length xs) y = pushed ∙ sym (insert-last xs y) in
      let last = rank-last w b fits none in
      let end : start + rank_in w b ≡ length xs = omega (arith, last, counted) in
      values-insert v w b (λ k. slice_get xs (start + k)) (λ k. slice_get ys (start + k)) y is
      (λ k low. ap (λ zs. slice_get zs (start + k)) put ∙ get-insert_below xs (length xs) y (start + k) (omega (arith, low, end)) (omega arith))
      (ap (slice_get ys) end ∙ (ap (λ zs. slice_get zs (length xs)) put ∙ get-insert_at xs (length xs) y (omega arith)))
      (λ k high.
      let e : start + suc k ≡ suc (start + k) = omega arith in
      ap (slice_get ys) e ∙ (ap (λ zs. slice_get zs (suc (start + k))) put ∙ get-insert_above xs (length xs) y (start + k) (omega (arith, high, end)) (omega arith)))

  -- the same from the begin of a list
  pub array-pushed : (v w b : ℕ) (xs ys : List T) (y : T) → IsSetAt v w b → w < 2 ^ 64 → HasNoneFrom w b → length xs ≡ count_ones w → ys ≡ xs ++ y ∷ []
      → (c : ℕ) → c < 64 → value_from (slice_get ys) v c ≡ (if c == b then Some y else value_from (slice_get xs) w c)
  array-pushed v w b xs ys y is fits none counted pushed =
      let put : ys ≡ insert xs (length xs) y = pushed ∙ sym (insert-last xs y) in
      let last = rank-last w b fits none in
      let end : rank_in w b ≡ length xs = omega (arith, last, counted) in
      values-insert v w b (slice_get xs) (slice_get ys) y is
      (λ k low. ap (λ zs. slice_get zs k) put ∙ get-insert_below xs (length xs) y k (omega (arith, low, end)) (omega arith))
      (ap (slice_get ys) end ∙ (ap (λ zs. slice_get zs (length xs)) put ∙ get-insert_at xs (length xs) y (omega arith)))
      (λ k high. ap (λ zs. slice_get zs (suc k)) put ∙ get-insert_above xs (length xs) y k (omega (arith, high, end)) (omega arith))

  -- a bit without a value is clear
  pub none-bit : (row : PackedArray T) (b : ℕ) → value_in row b ≡ None → bit_at row.word b ≡ 0
  none-bit row b none = elim (bit_cases row.word b) [
    | inl on ↦ absurd (let found = array-some row b on in none-some found.0 (sym none ∙ found.1))
    | inr off ↦ off
  ]

-- Bit b is the lowest of a word, and taken out of it.
pub record TakesLowest (left rest b : ℕ) : Type 0 where
  pub below : b < 64
  pub stood : bit_at left b ≡ 1
  pub lowest : (c : ℕ) → c < b → bit_at left c ≡ 0
  pub gone : bit_at rest b ≡ 0
  pub same : (c : ℕ) → c < 64 → c ≢ b → bit_at rest c ≡ bit_at left c

-- a bit that is left lies above it
pub left-above : (left rest b c : ℕ) → TakesLowest left rest b → c < 64 → bit_at rest c ≡ 1 → (b < c) × (bit_at left c ≡ 1)
left-above left rest b c is small on = elim (cases_order c b) [
  | inl same ↦ absurd (let gone = is.gone in let here : bit_at rest c ≡ bit_at rest b = ap (bit_at rest) same in omega (arith, on, here, gone))
  | inr (inl less) ↦ absurd (let off = is.lowest c less in let same = is.same c small (λ e. absurd (omega arith)) in omega (arith, off, same, on))
  | inr (inr more) ↦ (more, sym (is.same c small (λ e. absurd (omega arith))) ∙ on)
]

-- it has one bit less then
pub ones-taken : (left rest b : ℕ) → TakesLowest left rest b → left < 2 ^ 64 → rest < 2 ^ 64 → count_ones left ≡ count_ones rest + 1
ones-taken left rest b is fits_l fits_r = ones-set left rest b fits_l fits_r is.below is.gone is.stood (λ c small other. sym (is.same c small other))

pub no-item : {T : Type 0} (items : List T) (start b : ℕ) → item_from items start 0 b ≡ None
no-item items start b = value-off (λ k. slice_get items (start + k)) 0 b (zero-is-clear 0 b (bit_at-zero b))

pub no-ones : count_ones 0 ≡ 0
no-ones = let few = ones_le_self 0 in omega (arith, few)

-- Words are appended for some bits, and those of the bits that are left come behind them.
pub record AreBeingPushed (start left bits : ℕ) (items : List ℕ) (word : ℕ → ℕ) : Type 0 where
  pub counted : length items ≡ start + count_ones bits
  pub nonzero : (b w : ℕ) → b < 64 → item_from items start bits b ≡ Some w → (0 < w) × (w < 2 ^ 64)
  pub todo : (b c : ℕ) → b ≤ c → c < 64 → bit_at left b ≡ 1 → bit_at bits c ≡ 0
  pub done : (b : ℕ) → b < 64 → bit_at left b ≡ 0 → or_zero (item_from items start bits b) ≡ word b

pub words-first : (start left : ℕ) (items : List ℕ) (word : ℕ → ℕ) → length items ≡ start → ((b : ℕ) → b < 64 → bit_at left b ≡ 0 → word b ≡ 0)
    → AreBeingPushed start left 0 items word
words-first start left items word long none = record {
  counted = (let ones = no-ones in omega (arith, ones, long));
  nonzero = λ b w small is. absurd (none-some w (sym (no-item items start b) ∙ is));
  todo = λ b c order small on. bit_at-zero c;
  done = λ b small off. ap or_zero (no-item items start b) ∙ sym (none b small off);
}

module _ (start left rest b bits : ℕ) (xs : List ℕ) (word : ℕ → ℕ) (takes : TakesLowest left rest b) (was : AreBeingPushed start left bits xs word) where
  -- no bit from the one that was taken out on has a word yet
  pub none-yet : HasNoneFrom bits b
  none-yet c order small = was.todo b c order small takes.stood

  -- the word of the bit is 0
  pub word-passed : word b ≡ 0 → AreBeingPushed start rest bits xs word
  word-passed none = record {
    counted = was.counted;
    nonzero = was.nonzero;
    todo = λ a c order small on. let above = left-above left rest b a takes (omega (arith, order, small)) on in was.todo a c order small above.1;
    done = λ c small off. elim (same_or_not c b) [
      | inl same ↦
          let clear : bit_at bits c ≡ 0 = was.todo b c (omega (arith, same)) small takes.stood in
          ap or_zero (value-off (λ k. slice_get xs (start + k)) bits c (zero-is-clear bits c clear)) ∙ sym (ap word same ∙ none)
      | inr other ↦ was.done c small (sym (takes.same c small other) ∙ off)
    ];
  }

  -- it was appended
  pub word-pushed : (v y : ℕ) (ys : List ℕ) → bits < 2 ^ 64 → v < 2 ^ 64 → bit_at v b ≡ 1 → ((c : ℕ) → c < 64 → c ≢ b → bit_at v c ≡ bit_at bits c)
      → y ≡ word b → 0 < y → y < 2 ^ 64 → length ys ≡ length xs + 1 → ys ≡ xs ++ y ∷ [] → AreBeingPushed start rest v ys word
  word-pushed v y ys fits_w fits_v here same y-is some fits longer pushed = record {
    counted = (let counted = was.counted in let small = takes.below in
        let ones = ones-set v bits b fits_v fits_w small (none-yet b (omega arith) small) here same in omega (arith, ones, longer, counted));
    nonzero = λ c w small is. elim (same_or_not c b) [
      | inl at ↦ (let w-is : y ≡ w = same_Some y w (sym (at-here c small at) ∙ is) in (omega (arith, w-is, some), omega (arith, w-is, fits)))
      | inr other ↦ was.nonzero c w small (sym (at-other c small other) ∙ is)
    ];
    todo = λ a c order small on.
        let above = left-above left rest b a takes (omega (arith, order, small)) on in
        let later = above.0 in
        same c small (λ e. absurd (omega (arith, e, order, later))) ∙ was.todo a c order small above.1;
    done = λ c small off. elim (same_or_not c b) [
      | inl at ↦ ap or_zero (at-here c small at) ∙ (y-is ∙ ap word (sym at))
      | inr other ↦ ap or_zero (at-other c small other) ∙ was.done c small (sym (takes.same c small other) ∙ off)
    ];
  }
    where
      set : IsSetAt v bits b
      set = record { within = takes.below; clear = none-yet b (omega arith) takes.below; set = here; same = same }

      put : (c : ℕ) → c < 64 → item_from ys start v c ≡ (if c == b then Some y else item_from xs start bits c)
      put = value-pushed v bits b start xs ys y set fits_w none-yet was.counted pushed

      at-here : (c : ℕ) → c < 64 → c ≡ b → item_from ys start v c ≡ Some y
      at-here c small at = rw (eq_same c b at) at (put c small)

      at-other : (c : ℕ) → c < 64 → c ≢ b → item_from ys start v c ≡ item_from xs start bits c
      at-other c small other = rw (eq_other c b other) at (put c small)

-- no bit is left
pub words-last : (start bits : ℕ) (items : List ℕ) (word : ℕ → ℕ) → AreBeingPushed start 0 bits items word → AreWordsFrom start bits items word
words-last start bits items word was = record {
  counted = was.counted;
  nonzero = was.nonzero;
  words = λ b small. was.done b small (bit_at-zero b);
}

-- The groups of a table, of which none lies at q or after it, have all their values before q.
before-end : (group : ℕ → Option Group) (q k : ℕ) → ((p : ℕ) → q ≤ p → p < 64 → group p ≡ None) → q + k ≤ 64
    → values_before group (q + k) ≡ values_before group q
before-end group q zero none few = let e : q + 0 ≡ q = omega arith in ap (values_before group) e
before-end group q (suc k) none few =
    let e : q + suc k ≡ suc (q + k) = omega arith in
    let lower = before-end group q k none (omega arith) in
    let step = before-more group (q + k) in
    let here : count_ones (word_or_none (group (q + k))) ≡ count_ones 0 = ap (λ o. count_ones (word_or_none o)) (none (q + k) (omega arith) (omega arith)) in
    let ones = no-ones in
    rw e (omega (arith, lower, step, here, ones))

pub before-all : (group : ℕ → Option Group) (q : ℕ) → q ≤ 64 → ((p : ℕ) → q ≤ p → p < 64 → group p ≡ None) → values_before group 64 ≡ values_before group q
before-all group q few none = let e : q + (64 - q) ≡ 64 = omega arith in rw e at (before-end group q (64 - q) none (omega arith))

-- the values stay where the list does
pub same-values : {T : Type 0} (group : ℕ → Option Group) (n : ℕ) (xs ys : List T) → AreLaidOut group n → ((k : ℕ) → k < n → slice_get ys k ≡ slice_get xs k)
    → (p : ℕ) → p < 4096 → value_of_place group ys p ≡ value_of_place group xs p
same-values group n xs ys laid same p low = same-group xs ys (p % 64) (group (p / 64)) (λ g some.
    from-same (λ k. slice_get xs (g.start + k)) (λ k. slice_get ys (g.start + k)) g.word (p % 64) (λ on.
    same (g.start + rank_in g.word (p % 64)) (place-inside group n (p / 64) (p % 64) g laid (omega arith) some on)))

-- Groups of which none lies in group q or after it, and those with one put there, which begins where the values end.
module _ (q n bits : ℕ) (old new : ℕ → Option Group) (group : q < 64) (laid : AreLaidOut old n) (none : (p : ℕ) → q ≤ p → p < 64 → old p ≡ None)
    (put : (p : ℕ) → p < 64 → new p ≡ (if p == q then Some (record { word = bits; start = n }) else old p)) where
  pub at-group : new q ≡ Some (record { word = bits; start = n })
  at-group = rw (eq_same q q refl) at (put q group)

  pub at-other : (p : ℕ) → p < 64 → p ≢ q → new p ≡ old p
  at-other p low other = rw (eq_other p q other) at (put p low)

  below : (p : ℕ) → p ≤ q → values_before new p ≡ values_before old p
  below p upto = before-same old new p (λ r less. ap word_or_none (at-other r (omega arith) (λ e. absurd (omega arith))))

  pub above : (p : ℕ) → q + 1 ≤ p → p < 64 → new p ≡ None
  above p from low = at-other p low (λ e. absurd (omega arith)) ∙ none p (omega arith) low

  starts-at : n ≡ values_before old q
  starts-at = let all = laid.all in let end = before-all old q (omega arith) none in omega (arith, all, end)

  in-all : n + count_ones bits ≡ values_before new 64
  in-all =
      let end = before-all new (q + 1) (omega arith) above in
      let e : suc q ≡ q + 1 = omega arith in
      let step : values_before new (q + 1) ≡ values_before new q + count_ones (word_or_none (new q)) = rw e at (before-more new q) in
      let here : count_ones (word_or_none (new q)) ≡ count_ones bits = ap (λ o. count_ones (word_or_none o)) at-group in
      let lower = below q (omega arith) in
      let start = starts-at in
      omega (arith, end, step, here, lower, start)

  laid-at : 0 < bits → bits < 2 ^ 64 → (p : ℕ) (g : Group) → p < 64 → new p ≡ Some g → (0 < g.word) × (g.word < 2 ^ 64) × (g.start ≡ values_before new p)
  laid-at some fits p g low is = elim (cases_order p q) [
    | inl same ↦
        let g-is : record { word = bits; start = n } ≡ g = same_Some (record { word = bits; start = n }) g
        (sym at-group ∙ (ap new (sym same) ∙ is)) in
        let word-is : bits ≡ g.word = ap (λ h. h.word) g-is in
        let start-is : n ≡ g.start = ap (λ h. h.start) g-is in
        let before : values_before new p ≡ values_before old q = ap (values_before new) same ∙ below q (omega arith) in
        let start = starts-at in
        (omega (arith, word-is, some), omega (arith, word-is, fits), omega (arith, start-is, before, start))
    | inr (inl less) ↦
        let there : old p ≡ Some g = sym (at-other p low (λ e. absurd (omega arith))) ∙ is in
        (laid.nonzero p g low there, laid.fits p g low there, laid.starts p g low there ∙ sym (below p (omega arith)))
    | inr (inr more) ↦ absurd (none-some g (sym (above p (omega arith) low) ∙ is))
  ]

  pub laid-more : 0 < bits → bits < 2 ^ 64 → AreLaidOut new (n + count_ones bits)
  laid-more some fits = record {
    nonzero = λ p g low is. (laid-at some fits p g low is).0;
    fits = λ p g low is. (laid-at some fits p g low is).1;
    starts = λ p g low is. (laid-at some fits p g low is).2;
    all = in-all;
  }

-- What making a group gave: the words of a set, where none was.
pub record IsOneMade (q : ℕ) (old new : ℕ → Option Group) (xs ys : List ℕ) (word : ℕ → ℕ) : Type 0 where
  pub made : IsMadeUpTo (q + 1) new ys
  pub pushed : (p : ℕ) → p < 4096 → p / 64 ≡ q → or_zero (value_of_place new ys p) ≡ word (p % 64)
  pub others : (p : ℕ) → p < 4096 → p / 64 ≢ q → value_of_place new ys p ≡ value_of_place old xs p

module _ (q bits : ℕ) (old : ℕ → Option Group) (xs ys : List ℕ) (word : ℕ → ℕ) (group : q < 64) (was : IsMadeUpTo q old xs) (begins : BeginsWith xs ys)
    (are : AreWordsFrom (length xs) bits ys word) where
  -- all words were 0
  pub none-made : bits ≡ 0 → IsOneMade q old old xs ys word
  none-made none = record {
    made = record {
      laid_out = (let counted = are.counted in let zeros : count_ones bits ≡ count_ones 0 = ap count_ones none in let ones = no-ones in
          let long : length xs ≡ length ys = omega (arith, counted, zeros, ones) in subst (AreLaidOut old) long was.laid_out);
      none = λ p from low. was.none p (omega (arith, from)) low;
      nonzero = λ p w low is. was.nonzero p w low (sym (stay p low) ∙ is);
    };
    pushed = λ p low here.
        let clear : item_from ys (length xs) bits (p % 64) ≡ None = ap (λ v. item_from ys (length xs) v (p % 64)) none ∙ no-item ys (length xs) (p % 64) in
        ap or_zero (ap (option_and_then (value_by_group ys (p % 64))) (was.none (p / 64) (omega (arith, here)) (omega (arith, low))))
        ∙ (sym (ap or_zero clear) ∙ are.words (p % 64) (omega arith));
    others = λ p low other. stay p low;
  }
    where
      stay : (p : ℕ) → p < 4096 → value_of_place old ys p ≡ value_of_place old xs p
      stay = same-values old (length xs) xs ys was.laid_out begins

  module _ (new : ℕ → Option Group) (put : (p : ℕ) → p < 64 → new p ≡ (if p == q then Some (record { word = bits; start = length xs }) else old p)) where
    value-here : (p : ℕ) → p / 64 ≡ q → value_of_place new ys p ≡ item_from ys (length xs) bits (p % 64)
    value-here p here = ap (option_and_then (value_by_group ys (p % 64))) (ap new here ∙ at-group q (length xs) bits old new group was.laid_out was.none put)

    value-there : (p : ℕ) → p < 4096 → p / 64 ≢ q → value_of_place new ys p ≡ value_of_place old xs p
    value-there p low other =
        ap (option_and_then (value_by_group ys (p % 64))) (at-other q (length xs) bits old new group was.laid_out was.none put (p / 64) (omega arith) other)
        ∙ same-values old (length xs) xs ys was.laid_out begins p low

    pub one-made : 0 < bits → bits < 2 ^ 64 → IsOneMade q old new xs ys word
    one-made some fits = record {
      made = record {
        laid_out = subst (AreLaidOut new) (sym are.counted) (laid-more q (length xs) bits old new group was.laid_out was.none put some fits);
        none = above q (length xs) bits old new group was.laid_out was.none put;
        nonzero = λ p w low is. elim (same_or_not (p / 64) q) [
          | inl here ↦ are.nonzero (p % 64) w (omega arith) (sym (value-here p here) ∙ is)
          | inr other ↦ was.nonzero p w low (sym (value-there p low other) ∙ is)
        ];
      };
      pushed = λ p low here. ap or_zero (value-here p here) ∙ are.words (p % 64) (omega arith);
      others = value-there;
    }

  pub one-made-at : (start : ℕ) (new : ℕ → Option Group) → start ≡ length xs
      → ((p : ℕ) → p < 64 → new p ≡ (if p == q then Some (record { word = bits; start = start }) else old p))
      → 0 < bits → bits < 2 ^ 64 → IsOneMade q old new xs ys word
  one-made-at start new is put =
      one-made new (subst (λ s. (p : ℕ) → p < 64 → new p ≡ (if p == q then Some (record { word = bits; start = s }) else old p)) is put)

-- Groups are appended, and those whose bits are left come behind them. Of each place in the others so much is known.
pub record AreBeingMade (left : ℕ) (group : ℕ → Option Group) (items : List ℕ) (Is : ℕ → ℕ → Type 0) : Type 0 where
  pub laid_out : AreLaidOut group (length items)
  pub nonzero : (p w : ℕ) → p < 4096 → value_of_place group items p ≡ Some w → (0 < w) × (w < 2 ^ 64)
  pub todo : (b p : ℕ) → b ≤ p → p < 64 → bit_at left b ≡ 1 → group p ≡ None
  pub done : (p : ℕ) → p < 4096 → bit_at left (p / 64) ≡ 0 → Is p (or_zero (value_of_place group items p))

pub groups-first : (left : ℕ) (group : ℕ → Option Group) (items : List ℕ) (Is : ℕ → ℕ → Type 0) → length items ≡ 0 → ((p : ℕ) → group p ≡ None)
    → ((p : ℕ) → p < 4096 → bit_at left (p / 64) ≡ 0 → Is p 0) → AreBeingMade left group items Is
groups-first left group items Is empty none zeros = record {
  laid_out = record {
    nonzero = λ q g low is. absurd (none-some g (sym (none q) ∙ is));
    fits = λ q g low is. absurd (none-some g (sym (none q) ∙ is));
    starts = λ q g low is. absurd (none-some g (sym (none q) ∙ is));
    all = (let end = before-all group 0 (omega arith) (λ p from low. none p) in let start = before-none group in omega (arith, end, start, empty));
  };
  nonzero = λ p w low is. absurd (none-some w (sym (gone p) ∙ is));
  todo = λ b p order low on. none p;
  done = λ p low off. subst (Is p) (sym (ap or_zero (gone p))) (zeros p low off);
}
  where
    gone : (p : ℕ) → value_of_place group items p ≡ None
    gone p = ap (option_and_then (value_by_group items (p % 64))) (none (p / 64))

module _ (left rest q : ℕ) (old : ℕ → Option Group) (xs : List ℕ) (Is : ℕ → ℕ → Type 0) (takes : TakesLowest left rest q) (was : AreBeingMade left old xs Is) where
  pub made-upto : IsMadeUpTo q old xs
  made-upto = record {
    laid_out = was.laid_out;
    none = λ p from low. was.todo q p from low takes.stood;
    nonzero = was.nonzero;
  }

  -- one was made
  pub group-made : (new : ℕ → Option Group) (ys : List ℕ) → IsMadeUpTo (q + 1) new ys
      → ((p : ℕ) → p < 4096 → p / 64 ≡ q → Is p (or_zero (value_of_place new ys p)))
      → ((p : ℕ) → p < 4096 → p / 64 ≢ q → value_of_place new ys p ≡ value_of_place old xs p) → AreBeingMade rest new ys Is
  group-made new ys made pushed others = record {
    laid_out = made.laid_out;
    nonzero = made.nonzero;
    todo = λ b p order low on. let above = left-above left rest q b takes (omega (arith, order, low)) on in let later = above.0 in made.none p
        (omega (arith, later, order)) low;
    done = λ p low off. elim (same_or_not (p / 64) q) [
      | inl here ↦ pushed p low here
      | inr other ↦ subst (Is p) (sym (ap or_zero (others p low other))) (was.done p low (sym (takes.same (p / 64) (omega arith) other) ∙ off))
    ];
  }
