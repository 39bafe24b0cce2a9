-- Values of a list that are changed in place, of which those that stay close up.
use Rattle.std.proofs.Common.{◌≡◌, ℕ, suc, ◌+◌, ◌*◌, ◌/◌, ◌%◌, ◌^◌, ◌<◌, ◌≤◌, ◌==◌, true, false, List, length, set, get_or, take, Option, Some, None, refl, sym, ◌∙◌, ap, subst, arith, inl, inr}
use Rattle.std.specs.Prelude.{◌≢◌, if◌then◌else◌, option_and_then}
use Rattle.std.specs.Int.{bit_at}
use Rattle.std.specs.Prelude.{bit_and}
use Rattle.std.specs.Int.RustNames.{count_ones}
use Rattle.std.specs.List.{SwappedAt, slice_get}
use Rattle.std.proofs.Math.ListN.{length-set}
use Rattle.std.proofs.lemmas.Bool.{cases_order}
use Rattle.std.proofs.lemmas.List.{length-take-le}
use Rattle.std.proofs.lemmas.Nat.Bits.{bit_at-lt, bit_at-zero, bit_at_and}
use Rattle.std.proofs.lemmas.Option.{get_or_from_slice_get, none-some, slice_get-get_or}
use Rattle.hibitset_base.specs.Decisions.{eq_other, eq_same, same_or_not}
use Rattle.hibitset_sparse.specs.Layout.{AreLaidOut, value_by_group, value_of_place, values_before, word_or_none}
use Rattle.hibitset_sparse.specs.Parts.{item_from}
use Rattle.hibitset_sparse.specs.Rank.{IsSetAt, rank_in, value_from}
use Rattle.hibitset_sparse.specs.Retain.{IsRetained, LeavesOf}
use Rattle.hibitset_sparse.specs.declared.group.Group.{Group}
use Rattle.hibitset_sparse.proofs.AppendLemmas.{HasNoneFrom, TakesLowest, laid-more, left-above, no-item, no-ones, rank-last, same-values}
use Rattle.hibitset_sparse.proofs.EditLemmas.{get-set_at, get-set_other, get-take}
use Rattle.hibitset_sparse.proofs.GroupViewLemmas.{group-ends}
use Rattle.hibitset_sparse.proofs.LayoutLemmas.{before-more, before-upto, from-same, laid-same, none-laid}
use Rattle.hibitset_sparse.proofs.PackedArrayLemmas.{one-is-set, rank-is, value-off, value-on, zero-is-clear}
use Rattle.hibitset_sparse.proofs.RankLemmas.{ones-set, rank-before, rank-same, rank-within}
use Rattle.hibitset_sparse.proofs.WordLemmas.{bit_cases}

-- the bits of a word that a mask has too
module _ (word mask b : ℕ) where
  pub masked-on : bit_at (bit_and word mask) b ≡ 1 → bit_at word b ≡ 1
  masked-on on = let both = bit_at_and word mask b in let few = bit_at-lt word b in omega (arith, both, on, few)

  pub masked-off : bit_at (bit_and word mask) b ≡ 0 → bit_at word b ≡ 1 → bit_at mask b ≡ 0
  masked-off off on = let both = bit_at_and word mask b in let few = bit_at-lt mask b in omega (arith, both, off, on, few)

module _ {T : Type 0} where
  -- values that lie where they lay are the same
  pub item-same : (xs ys : List T) (start w b : ℕ) → ((k : ℕ) → start ≤ k → k < start + count_ones w → slice_get ys k ≡ slice_get xs k)
      → item_from ys start w b ≡ item_from xs start w b
  item-same xs ys start w b same = from-same (λ k. slice_get xs (start + k)) (λ k. slice_get ys (start + k)) w b (λ on.
      let within = rank-within w b on in same (start + rank_in w b) (omega arith) (omega (arith, within)))

  -- a value was put behind the others, for a bit above theirs
  pub item-last : (v w b to : ℕ) (xs ys : List T) (y : T) → IsSetAt v w b → w < 2 ^ 64 → HasNoneFrom w b
      → ((k : ℕ) → k < to + count_ones w → slice_get ys k ≡ slice_get xs k) → slice_get ys (to + count_ones w) ≡ Some y
      → (c : ℕ) → c < 64 → item_from ys to v c ≡ (if c == b then Some y else item_from xs to w c)
  item-last v w b to xs ys y is fits none same put c small = elim (cases_order c b) [
    | inl here ↦
        let last : rank_in v b ≡ count_ones w = rank-is v w b is ∙ rank-last w b fits none in
        rw (eq_same c b here, here) (value-on (λ k. slice_get ys (to + k)) v b (one-is-set v b is.set) ∙ (ap (λ r. slice_get ys (to + r)) last ∙ put))
    | inr (inl less) ↦
        let no : (c == b) ≡ false = eq_other c b (λ e. absurd (omega arith)) in
        let rank : rank_in v c ≡ rank_in w c = rank-same v w c (λ j low. is.same j (omega arith) (λ e. absurd (omega arith))) in
        let bit : bit_at v c ≡ bit_at w c = is.same c small (λ e. absurd (omega arith)) in
        rw no (moved v w c bit rank ∙ item-same xs ys to w c (λ k from low. same k low))
    | inr (inr more) ↦
        let no : (c == b) ≡ false = eq_other c b (λ e. absurd (omega arith)) in
        let off : bit_at w c ≡ 0 = none c (omega arith) small in
        let bit : bit_at v c ≡ 0 = is.same c small (λ e. absurd (omega arith)) ∙ off in
        rw no (value-off (λ k. slice_get ys (to + k)) v c (zero-is-clear v c bit) ∙ sym (value-off (λ k. slice_get xs (to + k)) w c (zero-is-clear w c off)))
  ]
    where
      moved : (v w c : ℕ) → bit_at v c ≡ bit_at w c → rank_in v c ≡ rank_in w c → item_from ys to v c ≡ item_from ys to w c
      moved v w c bit rank = ap (λ x. if x == 1 then slice_get ys (to + rank_in v c) else None) bit ∙ ap (λ r. if bit_at w c == 1 then slice_get ys (to + r) else None) rank

-- A value was written over, and then changed places with one before it.
module _ {T : Type 0} (xs ys : List T) (at from : ℕ) (y : T) (low : at < length xs) (high : from < length xs) (swapped : SwappedAt (set xs from y) ys at from) where
  twice : ys ≡ set (set (set xs from y) at (get_or (set xs from y) from y)) from (get_or (set xs from y) at y)
  twice = swapped.3 y

  pub swap-long : length ys ≡ length xs
  swap-long =
      ap length twice ∙ (length-set (set (set xs from y) at (get_or (set xs from y) from y)) from (get_or (set xs from y) at y)
      ∙ (length-set (set xs from y) at (get_or (set xs from y) from y) ∙ length-set xs from y))

  pub swap-here : slice_get ys at ≡ Some y
  swap-here =
      let long = swap-long in
      slice_get-get_or ys at y (omega (arith, low, long))
      ∙ ap Some (swapped.0 y ∙ get_or_from_slice_get (set xs from y) from y y (get-set_at xs from y high))

  pub swap-others : (k : ℕ) → k ≢ at → k ≢ from → slice_get ys k ≡ slice_get xs k
  swap-others k apart other =
      ap (λ zs. slice_get zs k) twice
      ∙ (get-set_other (set (set xs from y) at (get_or (set xs from y) from y)) from (get_or (set xs from y) at y) k other
      ∙ (get-set_other (set xs from y) at (get_or (set xs from y) from y) k apart ∙ get-set_other xs from y k other))

-- The values of the bits that are left are still to be changed. Of the others those that stay lie from `to` on.
pub record AreBeingRetained {T : Type 0} (leaves : ℕ → T → Option T → Type 0) (word start to : ℕ) (old : List T) (left kept at : ℕ) (items : List T) : Type 0 where
  pub counted : at ≡ to + count_ones kept
  pub fits : kept < 2 ^ 64
  pub fewer : count_ones kept ≤ count_ones word
  pub passed : (b : ℕ) → b < 64 → bit_at left b ≡ 1 → count_ones kept ≤ rank_in word b
  pub part : (b : ℕ) → b < 64 → bit_at left b ≡ 1 → bit_at word b ≡ 1
  pub todo : (b c : ℕ) → b ≤ c → c < 64 → bit_at left b ≡ 1 → bit_at kept c ≡ 0
  pub done : (b : ℕ) → b < 64 → bit_at left b ≡ 0 → LeavesOf (leaves b) (item_from old start word b) (item_from items to kept b)
  pub before : (k : ℕ) → k < to → slice_get items k ≡ slice_get old k
  pub unread : (b k : ℕ) → b < 64 → bit_at left b ≡ 1 → start + rank_in word b ≤ k → slice_get items k ≡ slice_get old k
  pub behind : (k : ℕ) → start + count_ones word ≤ k → slice_get items k ≡ slice_get old k
  pub long : length items ≡ length old

module _ {T : Type 0} (leaves : ℕ → T → Option T → Type 0) (word start to : ℕ) (old : List T) (order : to ≤ start) where
  -- at first none has been, and nothing is left of those whose bits are not
  pub retain-first : (left : ℕ) → ((b : ℕ) → b < 64 → bit_at left b ≡ 1 → bit_at word b ≡ 1)
      → ((b : ℕ) (x : T) → b < 64 → bit_at left b ≡ 0 → bit_at word b ≡ 1 → leaves b x None) → AreBeingRetained leaves word start to old left 0 to old
  retain-first left part gone = record {
    counted = (let none = no-ones in omega (arith, none));
    fits = omega arith;
    fewer = (let none = no-ones in omega (arith, none));
    passed = λ b small on. let none = no-ones in omega (arith, none);
    part = part;
    todo = λ b c order small on. bit_at-zero c;
    done = λ b small off. subst (LeavesOf (leaves b) (item_from old start word b)) (sym (no-item old to b)) (nothing b small off (item_from old start word b) refl);
    before = λ k low. refl;
    unread = λ b k small on up. refl;
    behind = λ k up. refl;
    long = refl;
  }
    where
      nothing : (b : ℕ) → b < 64 → bit_at left b ≡ 0 → (o : Option T) → item_from old start word b ≡ o → LeavesOf (leaves b) o None
      nothing b small off None is = refl
      nothing b small off (Some x) is = elim (bit_cases word b) [
        | inl on ↦ gone b x small off on
        | inr clear ↦ absurd (none-some x (sym (value-off (λ k. slice_get old (start + k)) word b (zero-is-clear word b clear)) ∙ is))
      ]

  module _ (left rest b kept at : ℕ) (items : List T) (takes : TakesLowest left rest b) (was : AreBeingRetained leaves word start to old left kept at items) where
    in-word : bit_at word b ≡ 1
    in-word = was.part b takes.below takes.stood

    pub here-within : start + count_ones word ≤ length old → start + rank_in word b < length items
    here-within within = let inside = rank-within word b in-word in let long = was.long in omega (arith, within, inside, long)

    pub at-upto : at ≤ start + rank_in word b
    at-upto = let counted = was.counted in let passed = was.passed b takes.below takes.stood in omega (arith, counted, passed, order)

    -- the next one is still where it was
    pub from-old : item_from old start word b ≡ slice_get items (start + rank_in word b)
    from-old =
        value-on (λ k. slice_get old (start + k)) word b (one-is-set word b in-word)
        ∙ sym (was.unread b (start + rank_in word b) takes.below takes.stood (omega arith))

    later : (c : ℕ) → c < 64 → bit_at rest c ≡ 1 → (b < c) × (bit_at left c ≡ 1)
    later c small on = left-above left rest b c takes small on

    none-kept : HasNoneFrom kept b
    none-kept c order small = was.todo b c order small takes.stood

    -- it was changed
    step : (v next : ℕ) (new : List T) (o : Option T) → next ≡ to + count_ones v → count_ones v ≤ count_ones kept + 1 → v < 2 ^ 64
        → ((c : ℕ) → b < c → c < 64 → bit_at v c ≡ bit_at kept c)
        → ((c : ℕ) → c < 64 → item_from new to v c ≡ (if c == b then o else item_from items to kept c))
        → ((k : ℕ) → k ≢ at → k ≢ start + rank_in word b → slice_get new k ≡ slice_get items k)
        → length new ≡ length items → LeavesOf (leaves b) (item_from old start word b) o
        → AreBeingRetained leaves word start to old rest v next new
    step v next new o counted most fits above put same long is =
        let old_at = was.counted in
        let upto = at-upto in
        let passed = was.passed b takes.below takes.stood in
        let inside = rank-within word b in-word in record {
          counted = counted;
          fits = fits;
          fewer = omega (arith, most, passed, inside);
          passed = λ c small on.
              let up = later c small on in
              let more = rank-before word b c up.0 in-word in
              omega (arith, most, passed, more);
          part = λ c small on. was.part c small (later c small on).1;
          todo = λ a c order small on.
              let up = later a (omega (arith, order, small)) on in
              let over = up.0 in
              above c (omega (arith, over, order)) small ∙ was.todo a c order small up.1;
          done = λ c small off. elim (same_or_not c b) [
            | inl here ↦
                let now : item_from new to v c ≡ o = put c small ∙ (let yes : (c == b) ≡ true = eq_same c b here in rw yes refl) in
                subst (λ x. LeavesOf (leaves c) (item_from old start word c) x) (sym now) (subst (λ a. LeavesOf (leaves a) (item_from old start word a) o) (sym here) is)
            | inr other ↦
                let now : item_from new to v c ≡ item_from items to kept c = put c small ∙ (let no : (c == b) ≡ false = eq_other c b other in rw no refl) in
                subst (λ x. LeavesOf (leaves c) (item_from old start word c) x) (sym now) (was.done c small (sym (takes.same c small other) ∙ off))
          ];
          before = λ k low. same k (λ e. absurd (omega (arith, e, low, old_at))) (λ e. absurd (omega (arith, e, low, order))) ∙ was.before k low;
          unread = λ c k small on from.
              let up = later c small on in
              let more = rank-before word b c up.0 in-word in
              same k (λ e. absurd (omega (arith, e, from, more, upto))) (λ e. absurd (omega (arith, e, from, more))) ∙ was.unread c k small up.1 from;
          behind = λ k from. same k (λ e. absurd (omega (arith, e, from, inside, upto))) (λ e. absurd (omega (arith, e, from, inside))) ∙ was.behind k from;
          long = long ∙ was.long;
        }

    -- and taken out
    pub retain-gone : (new : List T) → ((k : ℕ) → k ≢ start + rank_in word b → slice_get new k ≡ slice_get items k) → length new ≡ length items
        → LeavesOf (leaves b) (item_from old start word b) None → AreBeingRetained leaves word start to old rest kept at new
    retain-gone new same long is =
        let counted = was.counted in
        let upto = at-upto in
        step kept at new None counted (omega arith) was.fits (λ c up small. refl)
        (λ c small.
        let stays : item_from new to kept c ≡ item_from items to kept c = item-same items new to kept c (λ k up low. same k (λ e. absurd (omega (arith, e, low, counted, upto)))) in
        elim (same_or_not c b) [
          | inl here ↦ (let yes : (c == b) ≡ true = eq_same c b here in
              rw yes (value-off (λ k. slice_get new (to + k)) kept c (zero-is-clear kept c (none-kept c (omega (arith, here)) small))))
          | inr other ↦ (let no : (c == b) ≡ false = eq_other c b other in rw no stays)
        ])
        (λ k _ apart. same k apart)
        long is

    -- or moved to where it stays
    pub retain-kept : (v : ℕ) (new : List T) (y : T) → v < 2 ^ 64 → bit_at v b ≡ 1 → ((c : ℕ) → c < 64 → c ≢ b → bit_at v c ≡ bit_at kept c)
        → slice_get new at ≡ Some y → ((k : ℕ) → k ≢ at → k ≢ start + rank_in word b → slice_get new k ≡ slice_get items k) → length new ≡ length items
        → LeavesOf (leaves b) (item_from old start word b) (Some y) → AreBeingRetained leaves word start to old rest v (at + 1) new
    retain-kept v new y fits set same_bits put same long is =
        let counted = was.counted in
        let upto = at-upto in
        let bits : IsSetAt v kept b = record { within = takes.below; clear = none-kept b (omega arith) takes.below; set = set; same = same_bits } in
        let ones = ones-set v kept b fits was.fits takes.below bits.clear set same_bits in
        step v (at + 1) new (Some y) (omega (arith, counted, ones)) (omega (arith, ones)) fits
        (λ c up small. same_bits c small (λ e. absurd (omega (arith, e, up))))
        (item-last v kept b to items new y bits was.fits none-kept
        (λ k low. same k (λ e. absurd (omega (arith, e, low, counted))) (λ e. absurd (omega (arith, e, low, counted, upto))))
        (ap (slice_get new) (sym counted) ∙ put))
        same long is

  -- none is left
  pub retain-last : (left kept at : ℕ) (items : List T) → left ≡ 0 → AreBeingRetained leaves word start to old left kept at items
      → IsRetained leaves word start to kept old items
  retain-last left kept at items none was = record {
    left = λ b small. was.done b small (ap (λ w. bit_at w b) none ∙ bit_at-zero b);
    fewer = was.fewer;
    before = was.before;
    behind = was.behind;
    length = was.long;
  }

-- values that lie from the begin of a list
from-begin : {T : Type 0} (xs : List T) (w b : ℕ) → item_from xs 0 w b ≡ value_from (slice_get xs) w b
from-begin xs w b = from-same (slice_get xs) (λ k. slice_get xs (0 + k)) w b (λ on. ap (slice_get xs) (omega arith))

-- where there are values, something may be left of them
anything : {T : Type 0} (o left : Option T) (x : T) → o ≡ Some x → LeavesOf (λ y rest. Unit {0}) o left
anything o left x is = subst (λ p. LeavesOf (λ y rest. Unit {0}) p left) (sym is) tt

module _ {T : Type 0} (leaves : ℕ → T → Option T → Type 0) (root0 : ℕ) (list0 : List Group) (items0 : List T) where
  abbrev group0 : ℕ → Option Group
  group0 = value_from (slice_get list0) root0

  -- The groups of the bits that are left are still to be changed. The others are laid out from the begin of the lists on.
  pub record AreGroupsRetained (left root at to : ℕ) (list : List Group) (items : List T) : Type 0 where
    pub groups : AreBeingRetained (λ q g rest. Unit {0}) root0 0 0 list0 left root at list
    pub laid_out : AreLaidOut (item_from list 0 root) to
    pub values : (p : ℕ) → p < 4096 → bit_at left (p / 64) ≡ 0
        → LeavesOf (leaves p) (value_of_place group0 items0 p) (value_of_place (item_from list 0 root) items p)
    pub ahead : (q : ℕ) → q < 64 → bit_at left q ≡ 1 → to ≤ values_before group0 q
    pub unread : (q k : ℕ) → q < 64 → bit_at left q ≡ 1 → values_before group0 q ≤ k → slice_get items k ≡ slice_get items0 k
    pub few : to ≤ length items
    pub long : length items ≡ length items0

  -- at first all are, and nothing is left of those whose bits are not
  pub groups-retain-first : (left : ℕ) → ((q : ℕ) → q < 64 → bit_at left q ≡ 1 → bit_at root0 q ≡ 1)
      → ((q b : ℕ) (x : T) → q < 64 → b < 64 → bit_at left q ≡ 0 → bit_at root0 q ≡ 1 → leaves (64 * q + b) x None) → AreGroupsRetained left 0 0 0 list0 items0
  groups-retain-first left part gone = record {
    groups = retain-first (λ q g rest. Unit {0}) root0 0 0 list0 (omega arith) left part (λ q g low off on. tt);
    laid_out = none-laid (item_from list0 0 0) (λ q. no-item list0 0 q);
    values = λ p low off.
        subst (LeavesOf (leaves p) (value_of_place group0 items0 p)) (sym (ap (option_and_then (value_by_group items0 (p % 64))) (no-item list0 0 (p / 64))))
        (nothing p low off (value_of_place group0 items0 p) refl);
    ahead = λ q low on. omega arith;
    unread = λ q k low on from. refl;
    few = omega arith;
    long = refl;
  }
    where
      nothing : (p : ℕ) → p < 4096 → bit_at left (p / 64) ≡ 0 → (o : Option T) → value_of_place group0 items0 p ≡ o → LeavesOf (leaves p) o None
      nothing p low off None is = refl
      nothing p low off (Some x) is = elim (bit_cases root0 (p / 64)) [
        | inl on ↦
            let whole : 64 * (p / 64) + p % 64 ≡ p = omega arith in
            subst (λ k. leaves k x None) whole (gone (p / 64) (p % 64) x (omega (arith, low)) (omega arith) off on)
        | inr clear ↦ absurd (
            let none : group0 (p / 64) ≡ None = value-off (slice_get list0) root0 (p / 64) (zero-is-clear root0 (p / 64) clear) in
            none-some x (sym (ap (option_and_then (value_by_group items0 (p % 64))) none) ∙ is))
      ]

  module _ (laid0 : AreLaidOut group0 (length items0)) (left rest q root at to : ℕ) (list : List Group) (items : List T) (takes : TakesLowest left rest q)
      (was : AreGroupsRetained left root at to list items) (g : Group) (read : slice_get list (rank_in root0 q) ≡ Some g) where
    -- the group that is read is that of the bit
    read-old : item_from list0 0 root0 q ≡ Some g
    read-old = from-old (λ p h o. Unit {0}) root0 0 0 list0 (omega arith) left rest q root at list takes was.groups ∙ (ap (slice_get list) (omega arith) ∙ read)

    pub read-group : group0 q ≡ Some g
    read-group = sym (from-begin list0 root0 q) ∙ read-old

    starts : g.start ≡ values_before group0 q
    starts = laid0.starts q g takes.below read-group

    pub retain-order : to ≤ g.start
    retain-order = let ahead = was.ahead q takes.below takes.stood in let start = starts in omega (arith, ahead, start)

    ends : g.start + count_ones g.word ≤ length items0
    ends = group-ends group0 (length items0) q g laid0 takes.below read-group

    pub retain-within : g.start + count_ones g.word ≤ length items
    retain-within = let end = ends in let long = was.long in omega (arith, end, long)

    next-start : values_before group0 (suc q) ≡ g.start + count_ones g.word
    next-start =
        let step = before-more group0 q in
        let ones : count_ones (word_or_none (group0 q)) ≡ count_ones g.word = ap (λ o. count_ones (word_or_none o)) read-group in
        let start = starts in
        omega (arith, step, ones, start)

    -- a group that is left begins behind it
    behind-next : (p : ℕ) → p < 64 → bit_at rest p ≡ 1 → g.start + count_ones g.word ≤ values_before group0 p
    behind-next p low on =
        let up = left-above left rest q p takes low on in
        let over = up.0 in
        let more = before-upto group0 (suc q) p (omega (arith, over)) in
        let next = next-start in
        omega (arith, more, next)

    none-from : (p : ℕ) → q ≤ p → p < 64 → item_from list 0 root p ≡ None
    none-from p order low = value-off (λ k. slice_get list (0 + k)) root p (zero-is-clear root p (was.groups.todo q p order low takes.stood))

    module _ (word : ℕ) (new : List T) (is : IsRetained (λ b. leaves (64 * q + b)) g.word g.start to word items new) where
      -- what is left of the group's values
      left-of : (p : ℕ) → p < 4096 → p / 64 ≡ q → LeavesOf (leaves p) (value_of_place group0 items0 p) (item_from new to word (p % 64))
      left-of p low here =
          let place : 64 * q + p % 64 ≡ p = omega (arith, here) in
          let start = starts in
          let unread : item_from items g.start g.word (p % 64) ≡ item_from items0 g.start g.word (p % 64) =
          item-same items0 items g.start g.word (p % 64) (λ k order less. was.unread q k takes.below takes.stood (omega (arith, order, start))) in
          let old : value_of_place group0 items0 p ≡ item_from items g.start g.word (p % 64) =
          ap (option_and_then (value_by_group items0 (p % 64))) (ap group0 here ∙ read-group) ∙ sym unread in
          subst (λ o. LeavesOf (leaves p) o (item_from new to word (p % 64))) (sym old)
          (subst (λ k. LeavesOf (leaves k) (item_from items g.start g.word (p % 64)) (item_from new to word (p % 64))) place (is.left (p % 64) (omega arith)))

      -- the group was changed
      group-step : (root1 at1 to1 : ℕ) (list1 : List Group) → AreBeingRetained (λ p h o. Unit {0}) root0 0 0 list0 rest root1 at1 list1
          → AreLaidOut (item_from list1 0 root1) to1 → to1 ≡ to + count_ones word
          → ((p : ℕ) → p < 64 → p ≢ q → item_from list1 0 root1 p ≡ item_from list 0 root p)
          → ((b : ℕ) → option_and_then (value_by_group new b) (item_from list1 0 root1 q) ≡ item_from new to word b)
          → AreGroupsRetained rest root1 at1 to1 list1 new
      group-step root1 at1 to1 list1 groups laid to-is others here = record {
        groups = groups;
        laid_out = laid;
        values = λ p low off. elim (same_or_not (p / 64) q) [
          | inl same ↦
              let now : value_of_place (item_from list1 0 root1) new p ≡ item_from new to word (p % 64) =
              ap (λ r. option_and_then (value_by_group new (p % 64)) (item_from list1 0 root1 r)) same ∙ here (p % 64) in
              subst (LeavesOf (leaves p) (value_of_place group0 items0 p)) (sym now) (left-of p low same)
          | inr other ↦
              let now : value_of_place (item_from list1 0 root1) new p ≡ value_of_place (item_from list 0 root) items p =
              ap (option_and_then (value_by_group new (p % 64))) (others (p / 64) (omega (arith, low)) other)
              ∙ same-values (item_from list 0 root) to items new was.laid_out is.before p low in
              subst (LeavesOf (leaves p) (value_of_place group0 items0 p)) (sym now) (was.values p low (sym (takes.same (p / 64) (omega (arith, low)) other) ∙ off))
        ];
        ahead = λ p low on. let after = behind-next p low on in let order = retain-order in let fewer = is.fewer in omega (arith, to-is, after, order, fewer);
        unread = λ p k low on from_k.
            let after = behind-next p low on in
            let up = left-above left rest q p takes low on in
            is.behind k (omega (arith, after, from_k)) ∙ was.unread p k low up.1 from_k;
        few = (let end = retain-within in let order = retain-order in let fewer = is.fewer in let long = is.length in omega (arith, to-is, end, order, fewer, long));
        long = is.length ∙ was.long;
      }

      -- none of its values is left
      pub group-gone : word ≡ 0 → AreGroupsRetained rest root at to list new
      group-gone none =
          let ones : count_ones word ≡ count_ones 0 = ap count_ones none in
          let zero_ones = no-ones in
          group-step root at to list
          (retain-gone (λ p h o. Unit {0}) root0 0 0 list0 (omega arith) left rest q root at list takes was.groups list (λ k other. refl) refl
          (anything (item_from list0 0 root0 q) None g read-old))
          was.laid_out (omega (arith, ones, zero_ones)) (λ p low other. refl)
          (λ b. ap (option_and_then (value_by_group new b)) (none-from q (omega arith) takes.below)
          ∙ sym (ap (λ w. item_from new to w b) none ∙ no-item new to b))

      -- some are
      pub group-kept : (root1 : ℕ) (list1 : List Group) → 0 < word → word < 2 ^ 64 → root1 < 2 ^ 64 → bit_at root1 q ≡ 1
          → ((c : ℕ) → c < 64 → c ≢ q → bit_at root1 c ≡ bit_at root c)
          → slice_get list1 at ≡ Some (record { word = word; start = to }) → ((k : ℕ) → k ≢ at → slice_get list1 k ≡ slice_get list k) → length list1 ≡ length list
          → AreGroupsRetained rest root1 (at + 1) (to + count_ones word) list1 new
      group-kept root1 list1 some fits fits_root set same put others long =
          let counted = was.groups.counted in
          let none : HasNoneFrom root q = λ c order small. was.groups.todo q c order small takes.stood in
          let bits : IsSetAt root1 root q = record { within = takes.below; clear = none q (omega arith) takes.below; set = set; same = same } in
          let place : (p : ℕ) → p < 64 → item_from list1 0 root1 p ≡ (if p == q then Some (record { word = word; start = to }) else item_from list 0 root p) =
          item-last root1 root q 0 list list1 (record { word = word; start = to }) bits was.groups.fits none
          (λ k low. others k (λ e. absurd (omega (arith, e, low, counted))))
          (ap (slice_get list1) (sym counted) ∙ put) in
          let at-q : item_from list1 0 root1 q ≡ Some (record { word = word; start = to }) = place q takes.below ∙ (let yes : (q == q) ≡ true = eq_same q q refl in rw yes refl) in
          group-step root1 (at + 1) (to + count_ones word) list1
          (retain-kept (λ p h o. Unit {0}) root0 0 0 list0 (omega arith) left rest q root at list takes was.groups root1 list1 (record { word = word; start = to })
          fits_root set same put (λ k apart _. others k apart) long
          (anything (item_from list0 0 root0 q) (Some (record { word = word; start = to })) g read-old))
          (laid-more q to word (item_from list 0 root) (item_from list1 0 root1) takes.below was.laid_out none-from place some fits)
          refl
          (λ p low other. place p low ∙ (let no : (p == q) ≡ false = eq_other p q other in rw no refl))
          (λ b. ap (option_and_then (value_by_group new b)) at-q)

  -- All have been: the lists end where the values do.
  module _ (left root at to : ℕ) (list : List Group) (items : List T) (none : left ≡ 0) (was : AreGroupsRetained left root at to list items) where
    cut-group : (q : ℕ) → value_from (slice_get (take at list)) root q ≡ item_from list 0 root q
    cut-group q =
        let counted = was.groups.counted in
        from-same (λ k. slice_get list (0 + k)) (slice_get (take at list)) root q (λ on.
        let within = rank-within root q on in
        get-take list at (rank_in root q) (omega (arith, within, counted)) ∙ ap (slice_get list) (omega arith))

    pub cut-laid : AreLaidOut (value_from (slice_get (take at list)) root) (length (take to items))
    cut-laid = subst (AreLaidOut (value_from (slice_get (take at list)) root)) (sym (length-take-le to items was.few))
        (laid-same (item_from list 0 root) (value_from (slice_get (take at list)) root) to cut-group was.laid_out)

    pub cut-values : (p : ℕ) → p < 4096 → LeavesOf (leaves p) (value_of_place group0 items0 p) (value_of_place (value_from (slice_get (take at list)) root) (take to items) p)
    cut-values p low =
        let off : bit_at left (p / 64) ≡ 0 = ap (λ w. bit_at w (p / 64)) none ∙ bit_at-zero (p / 64) in
        let now : value_of_place (value_from (slice_get (take at list)) root) (take to items) p ≡ value_of_place (item_from list 0 root) items p =
        ap (option_and_then (value_by_group (take to items) (p % 64))) (cut-group (p / 64))
        ∙ same-values (item_from list 0 root) to items (take to items) was.laid_out (λ k less. get-take items to k less) p low in
        subst (LeavesOf (leaves p) (value_of_place group0 items0 p)) (sym now) (was.values p low off)
