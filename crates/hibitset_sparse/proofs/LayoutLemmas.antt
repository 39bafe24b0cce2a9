-- Where the values of a table lie, beside those of a table with one value less.
use Rattle.std.proofs.Common.{◌≡◌, ℕ, zero, suc, ◌+◌, ◌-◌, ◌*◌, ◌/◌, ◌%◌, ◌^◌, ◌<◌, ◌≤◌, ◌==◌, true, false, List, length, Option, Some, None, refl, sym, ◌∙◌, ap, set, arith, inl, inr}
use Rattle.std.specs.Prelude.{◌≢◌, if◌then◌else◌, option_and_then, option_map}
use Rattle.std.specs.Int.{bit_at}
use Rattle.std.specs.Int.RustNames.{count_ones}
use Rattle.std.specs.List.{insert, remove, slice_get}
use Rattle.std.proofs.lemmas.Bool.{cases_lt, cases_Bool, cases_order}
use Rattle.std.proofs.lemmas.Nat.{ones_le_self}
use Rattle.std.proofs.lemmas.Nat.Bits.{bit_at-zero}
use Rattle.std.proofs.lemmas.Option.{same_Some, none-some}
use Rattle.hibitset_base.proofs.OneCountLemmas.{few_ones}
use Rattle.hibitset_base.specs.Decisions.{eq_other, eq_same, same_or_not}
use Rattle.hibitset_sparse.specs.Rank.{rank_in, bit_is_set, value_from, IsSetAt}
use Rattle.hibitset_sparse.specs.Layout.{word_or_none, values_before, AreLaidOut, AreMovedUp, IsNarrower, IsPlace, IsWider, IsWidenedAt, moved_up, value_by_group, value_of_place}
use Rattle.hibitset_sparse.specs.declared.group.Group.{Group}
use Rattle.hibitset_sparse.proofs.RankLemmas.{rank-most, rank-within, rank-before, rank-same, ones-set}
use Rattle.hibitset_sparse.proofs.EditLemmas.{get-insert_below, get-insert_above, get-remove_below, get-remove_above, get-set_at, get-set_other}
use Rattle.hibitset_sparse.proofs.PackedArrayLemmas.{set-is-one, one-is-set, zero-is-clear, value-on, value-off, others}

pub before-more : (group : ℕ → Option Group) (q : ℕ) → values_before group (suc q) ≡ values_before group q + count_ones (word_or_none (group q))
unfolding values_before
before-more group q = refl

pub before-none : (group : ℕ → Option Group) → values_before group 0 ≡ 0
unfolding values_before
before-none group = refl

before-later : (group : ℕ → Option Group) (p k : ℕ) → values_before group p ≤ values_before group (p + k)
before-later group p zero = let e : p + 0 ≡ p = omega arith in rw e (omega arith)
before-later group p (suc k) =
    let e : p + suc k ≡ suc (p + k) = omega arith in
    let lower = before-later group p k in
    let step = before-more group (p + k) in
    rw e (omega (arith, lower, step))

pub before-upto : (group : ℕ → Option Group) (p q : ℕ) → p ≤ q → values_before group p ≤ values_before group q
before-upto group p q order = let e : p + (q - p) ≡ q = omega arith in rw e at (before-later group p (q - p))

pub before-same : (g h : ℕ → Option Group) (q : ℕ) → ((p : ℕ) → p < q → word_or_none (h p) ≡ word_or_none (g p)) → values_before h q ≡ values_before g q
before-same g h zero same = before-none h ∙ sym (before-none g)
before-same g h (suc q) same =
    let lower = before-same g h q (λ p below. same p (omega arith)) in
    let here : count_ones (word_or_none (h q)) ≡ count_ones (word_or_none (g q)) = ap count_ones (same q (omega arith)) in
    let a = before-more h q in
    let b = before-more g q in
    omega (arith, lower, here, a, b)

-- the words of two tables are the same but for one bit of group q
pub record DifferAt (q v w b : ℕ) (small big : ℕ → Option Group) : Type 0 where
  pub group : q < 64
  pub bit : IsSetAt v w b
  pub wide : v < 2 ^ 64
  pub narrow : w < 2 ^ 64
  pub lower : word_or_none (small q) ≡ w
  pub upper : word_or_none (big q) ≡ v
  pub others : (p : ℕ) → p < 64 → p ≢ q → word_or_none (big p) ≡ word_or_none (small p)

before-wider-by : (q v w b k : ℕ) (small big : ℕ → Option Group) → DifferAt q v w b small big → q + 1 + k ≤ 64 → values_before big (q + 1 + k) ≡ values_before small (q + 1 + k) + 1
before-wider-by q v w b zero small big is few =
    let e : q + 1 + 0 ≡ suc q = omega arith in
    let within = is.group in
    let lower = before-same small big q (λ p below. is.others p (omega arith) (λ e. absurd (omega arith))) in
    let x = before-more big q in
    let y = before-more small q in
    let inside = is.bit.within in
    let ones = ones-set v w b is.wide is.narrow inside is.bit.clear is.bit.set is.bit.same in
    let x2 : count_ones (word_or_none (big q)) ≡ count_ones v = ap count_ones is.upper in
    let y2 : count_ones (word_or_none (small q)) ≡ count_ones w = ap count_ones is.lower in
    rw e (omega (arith, lower, x, y, ones, x2, y2))
before-wider-by q v w b (suc k) small big is few =
    let e : q + 1 + suc k ≡ suc (q + 1 + k) = omega arith in
    let lower = before-wider-by q v w b k small big is (omega arith) in
    let x = before-more big (q + 1 + k) in
    let y = before-more small (q + 1 + k) in
    let same : count_ones (word_or_none (big (q + 1 + k))) ≡ count_ones (word_or_none (small (q + 1 + k))) = ap count_ones (is.others (q + 1 + k) (omega arith) (λ e. absurd (omega arith))) in
    rw e (omega (arith, lower, x, y, same))

-- behind group q there is one value more
pub before-wider : (q v w b p : ℕ) (small big : ℕ → Option Group) → DifferAt q v w b small big → q < p → p ≤ 64 → values_before big p ≡ values_before small p + 1
before-wider q v w b p small big is above few = let e : q + 1 + (p - (q + 1)) ≡ p = omega arith in rw e at (before-wider-by q v w b (p - (q + 1)) small big is (omega arith))

-- before it there are as many
pub before-narrow : (q v w b p : ℕ) (small big : ℕ → Option Group) → DifferAt q v w b small big → p ≤ q → values_before big p ≡ values_before small p
before-narrow q v w b p small big is upto = let within = is.group in before-same small big p (λ r below. is.others r (omega arith) (λ e. absurd (omega arith)))

-- a value lies before those of the next group
pub place-within : (group : ℕ → Option Group) (n q b : ℕ) (g : Group) → AreLaidOut group n → q < 64 → group q ≡ Some g → bit_at g.word b ≡ 1 → g.start + rank_in g.word b < values_before group (suc q)
place-within group n q b g laid small is on =
    let starts = laid.starts q g small is in
    let rank = rank-within g.word b on in
    let step = before-more group q in
    let ones : count_ones (word_or_none (group q)) ≡ count_ones g.word = ap (λ o. count_ones (word_or_none o)) is in
    omega (arith, starts, rank, step, ones)

-- and before the end of all
pub place-inside : (group : ℕ → Option Group) (n q b : ℕ) (g : Group) → AreLaidOut group n → q < 64 → group q ≡ Some g → bit_at g.word b ≡ 1 → g.start + rank_in g.word b < n
place-inside group n q b g laid small is on =
    let here = place-within group n q b g laid small is on in
    let rest = before-upto group (suc q) 64 (omega arith) in
    let all = laid.all in
    omega (arith, here, rest, all)

-- How the groups of two tables lie that differ in one value.
pub record IsOneWider (q v w b start : ℕ) (small big : ℕ → Option Group) : Type 0 where
  pub differ : DifferAt q v w b small big
  pub begins : start ≡ values_before small q
  pub lower : (g : Group) → small q ≡ Some g → (g.word ≡ w) × (g.start ≡ start) × (0 < w)
  pub lower_none : small q ≡ None → w ≡ 0
  pub wider : IsWidenedAt q v start small big

-- the last rank of group q lies before the groups behind it
gap-upto : (q v w b start : ℕ) (small big : ℕ → Option Group) → IsOneWider q v w b start small big → start + rank_in w b ≤ values_before small (suc q)
gap-upto q v w b start small big is =
    let begins = is.begins in
    let rank = rank-most w b in
    let step = before-more small q in
    let ones : count_ones (word_or_none (small q)) ≡ count_ones w = ap count_ones is.differ.lower in
    omega (arith, begins, rank, step, ones)

-- a group that begins one place later is one
unmoved : (o : Option Group) (g : Group) → option_map moved_up o ≡ Some g → (h : Group) × (o ≡ Some h) × (g ≡ moved_up h)
unmoved None g is = absurd (none-some g is)
unmoved (Some h) g is = (h, refl, sym (same_Some (moved_up h) g is))

pub some-word : (v b x : ℕ) → 0 < x → bit_at v b ≡ x → 0 < v
some-word v b x some on = elim (cases_lt 0 v) [
  | inl more ↦ more
  | inr none ↦ absurd (let z : v ≡ 0 = omega (arith, none) in let off : bit_at v b ≡ 0 = ap (λ x. bit_at x b) z ∙ bit_at-zero b in omega (arith, on, off, some))
]

-- what is said of a group in a layout
abbrev pub GroupIsLaid : (ℕ → Option Group) → ℕ → Group → Type 0
GroupIsLaid group q g = (0 < g.word) × (g.word < 2 ^ 64) × (g.start ≡ values_before group q)

-- the wider table is laid out if the narrow one is
wider-group : (n q v w b start : ℕ) (small big : ℕ → Option Group) → IsOneWider q v w b start small big → AreLaidOut small n → (p : ℕ) (g : Group) → p < 64 → big p ≡ Some g → GroupIsLaid big p g
wider-group n q v w b start small big is laid p g low some = elim (cases_order p q) [
  | inl same ↦
      let here : Some (record { word = v; start = start }) ≡ Some g = sym is.wider.here ∙ (ap big (sym same) ∙ some) in
      let g-is : record { word = v; start = start } ≡ g = same_Some (record { word = v; start = start }) g here in
      let word-is : v ≡ g.word = ap (λ h. h.word) g-is in
      let start-is : start ≡ g.start = ap (λ h. h.start) g-is in
      let before : values_before big p ≡ values_before small q = ap (values_before big) same ∙ before-narrow q v w b q small big is.differ (omega arith) in
      let begins = is.begins in
      let wide = is.differ.wide in
      let nonzero = some-word v b 1 (omega arith) is.differ.bit.set in
      (omega (arith, nonzero, word-is), omega (arith, wide, word-is), omega (arith, before, begins, start-is))
  | inr (inl less) ↦
      let old : small p ≡ Some g = sym (is.wider.before p less) ∙ some in
      let before = before-narrow q v w b p small big is.differ (omega arith) in
      let starts = laid.starts p g low old in
      (laid.nonzero p g low old, laid.fits p g low old, omega (arith, before, starts))
  | inr (inr more) ↦
      let moved = unmoved (small p) g (sym (is.wider.after p more low) ∙ some) in
      let h : Group = moved.0 in
      let before = before-wider q v w b p small big is.differ more (omega arith) in
      let starts = laid.starts p h low moved.1 in
      let word-is : g.word ≡ h.word = ap (λ x. x.word) moved.2 in
      let start-is : g.start ≡ h.start + 1 = ap (λ x. x.start) moved.2 in
      let nonzero = laid.nonzero p h low moved.1 in
      let fits = laid.fits p h low moved.1 in
      (omega (arith, nonzero, word-is), omega (arith, fits, word-is), omega (arith, before, starts, start-is))
]

pub wider-laid : (n q v w b start : ℕ) (small big : ℕ → Option Group) → IsOneWider q v w b start small big → AreLaidOut small n → AreLaidOut big (n + 1)
wider-laid n q v w b start small big is laid = record {
  nonzero = λ p g low some. (wider-group n q v w b start small big is laid p g low some).0;
  fits = λ p g low some. (wider-group n q v w b start small big is laid p g low some).1;
  starts = λ p g low some. (wider-group n q v w b start small big is laid p g low some).2;
  all = (let group = is.differ.group in let more = before-wider q v w b 64 small big is.differ group (omega arith) in let all = laid.all in omega (arith, more, all));
}

-- and the narrow one if the wide one is
narrow-group : (n q v w b start : ℕ) (small big : ℕ → Option Group) → IsOneWider q v w b start small big → AreLaidOut big n → (p : ℕ) (g : Group) → p < 64 → small p ≡ Some g → GroupIsLaid small p g
narrow-group n q v w b start small big is laid p g low some = elim (cases_order p q) [
  | inl same ↦
      let lower = is.lower g (ap small (sym same) ∙ some) in
      let narrow = is.differ.narrow in
      let begins = is.begins in
      let before : values_before small p ≡ values_before small q = ap (values_before small) same in
      let word-is = lower.0 in
      let start-is = lower.1 in
      let nonzero = lower.2 in
      (omega (arith, word-is, nonzero), omega (arith, word-is, narrow), omega (arith, start-is, begins, before))
  | inr (inl less) ↦
      let new : big p ≡ Some g = is.wider.before p less ∙ some in
      let before = before-narrow q v w b p small big is.differ (omega arith) in
      let starts = laid.starts p g low new in
      (laid.nonzero p g low new, laid.fits p g low new, omega (arith, before, starts))
  | inr (inr more) ↦
      let new : big p ≡ Some (moved_up g) = is.wider.after p more low ∙ ap (option_map moved_up) some in
      let before = before-wider q v w b p small big is.differ more (omega arith) in
      let starts = laid.starts p (moved_up g) low new in
      (laid.nonzero p (moved_up g) low new, laid.fits p (moved_up g) low new, omega (arith, before, starts))
]

pub narrow-laid : (n q v w b start : ℕ) (small big : ℕ → Option Group) → IsOneWider q v w b start small big → AreLaidOut big (n + 1) → AreLaidOut small n
narrow-laid n q v w b start small big is laid = record {
  nonzero = λ p g low some. (narrow-group (n + 1) q v w b start small big is laid p g low some).0;
  fits = λ p g low some. (narrow-group (n + 1) q v w b start small big is laid p g low some).1;
  starts = λ p g low some. (narrow-group (n + 1) q v w b start small big is laid p g low some).2;
  all = (let group = is.differ.group in let more = before-wider q v w b 64 small big is.differ group (omega arith) in let all = laid.all in omega (arith, more, all));
}

module _ {T : Type 0} where
  -- a bit gives the same if the value of its rank is the same
  pub from-same : (f g : ℕ → Option T) (w b : ℕ) → (bit_at w b ≡ 1 → g (rank_in w b) ≡ f (rank_in w b)) → value_from g w b ≡ value_from f w b
  from-same f g w b same = elim (cases_Bool (bit_is_set w b)) [
    | inl on ↦ value-on g w b on ∙ (same (set-is-one w b on) ∙ sym (value-on f w b on))
    | inr off ↦ value-off g w b off ∙ sym (value-off f w b off)
  ]

  pub same-group : (xs ys : List T) (b : ℕ) (o : Option Group) → ((g : Group) → o ≡ Some g → value_by_group ys b g ≡ value_by_group xs b g)
      → option_and_then (value_by_group ys b) o ≡ option_and_then (value_by_group xs b) o
  same-group xs ys b None same = refl
  same-group xs ys b (Some g) same = same g refl

  moved-group : (xs ys : List T) (b : ℕ) (o : Option Group) → ((g : Group) → o ≡ Some g → value_by_group ys b (moved_up g) ≡ value_by_group xs b g)
      → option_and_then (value_by_group ys b) (option_map moved_up o) ≡ option_and_then (value_by_group xs b) o
  moved-group xs ys b None same = refl
  moved-group xs ys b (Some g) same = same g refl

  -- what a group has by its word, if it has one
  by-word : (xs : List T) (w b start : ℕ) (o : Option Group) → ((g : Group) → o ≡ Some g → (g.word ≡ w) × (g.start ≡ start) × (0 < w)) → (o ≡ None → w ≡ 0)
      → option_and_then (value_by_group xs b) o ≡ value_from (λ k. slice_get xs (start + k)) w b
  by-word xs w b start None some none =
      let zero_bit : bit_at w b ≡ 0 = ap (λ x. bit_at x b) (none refl) ∙ bit_at-zero b in
      sym (value-off (λ k. slice_get xs (start + k)) w b (zero-is-clear w b zero_bit))
  by-word xs w b start (Some g) some none =
      let is = some g refl in
      ap (λ s. value_from (λ k. slice_get xs (s + k)) g.word b) is.1 ∙ ap (λ x. value_from (λ k. slice_get xs (start + k)) x b) is.0

  -- the lists of two tables that differ in the value at one place
  pub record IsLonger (at : ℕ) (xs ys : List T) : Type 0 where
    pub below : (k : ℕ) → k < at → slice_get ys k ≡ slice_get xs k
    pub above : (k : ℕ) → at ≤ k → slice_get ys (suc k) ≡ slice_get xs k

  module _ (n q v w b start : ℕ) (small big : ℕ → Option Group) (xs ys : List T) (is : IsOneWider q v w b start small big) (laid : AreLaidOut small n) (longer : IsLonger (start + rank_in w b) xs ys) where
    in_group : (c : ℕ) → c < 64 → c ≢ b → option_and_then (value_by_group ys c) (big q) ≡ option_and_then (value_by_group xs c) (small q)
    in_group c small_c other =
        ap (option_and_then (value_by_group ys c)) is.wider.here
        ∙ (others v w b (λ k. slice_get xs (start + k)) (λ k. slice_get ys (start + k)) is.differ.bit
        (λ k low. longer.below (start + k) (omega (arith, low)))
        (λ k high. (let e : start + suc k ≡ suc (start + k) = omega arith in ap (slice_get ys) e) ∙ longer.above (start + k) (omega (arith, high)))
        c small_c other
        ∙ sym (by-word xs w c start (small q) is.lower is.lower_none))

    before_group : (p c : ℕ) → p < q → option_and_then (value_by_group ys c) (big p) ≡ option_and_then (value_by_group xs c) (small p)
    before_group p c low =
        ap (option_and_then (value_by_group ys c)) (is.wider.before p low)
        ∙ same-group xs ys c (small p) (λ g some.
        from-same (λ k. slice_get xs (g.start + k)) (λ k. slice_get ys (g.start + k)) g.word c (λ on.
        let group = is.differ.group in
        let here = place-within small n p c g laid (omega arith) some on in
        let rest = before-upto small (suc p) q (omega arith) in
        let begins = is.begins in
        longer.below (g.start + rank_in g.word c) (omega (arith, here, rest, begins))))

    after_group : (p c : ℕ) → q < p → p < 64 → option_and_then (value_by_group ys c) (big p) ≡ option_and_then (value_by_group xs c) (small p)
    after_group p c high low =
        ap (option_and_then (value_by_group ys c)) (is.wider.after p high low)
        ∙ moved-group xs ys c (small p) (λ g some.
        from-same (λ k. slice_get xs (g.start + k)) (λ k. slice_get ys (g.start + 1 + k)) g.word c (λ on.
        let gap = gap-upto q v w b start small big is in
        let rest = before-upto small (suc q) p (omega arith) in
        let starts = laid.starts p g low some in
        (let e : g.start + 1 + rank_in g.word c ≡ suc (g.start + rank_in g.word c) = omega arith in ap (slice_get ys) e)
        ∙ longer.above (g.start + rank_in g.word c) (omega (arith, gap, rest, starts))))

    -- every other place has the same value in both
    pub other-places : (p c : ℕ) → p < 64 → c < 64 → (p ≡ q → c ≢ b) → option_and_then (value_by_group ys c) (big p) ≡ option_and_then (value_by_group xs c) (small p)
    other-places p c low small_c other = elim (cases_order p q) [
      | inl same ↦ rw same (in_group c small_c (other same))
      | inr (inl less) ↦ before_group p c less
      | inr (inr more) ↦ after_group p c more low
    ]

    -- the place itself
    pub this-place : option_and_then (value_by_group ys b) (big q) ≡ slice_get ys (start + rank_in w b)
    this-place =
        let within = is.differ.bit.within in
        let rank : rank_in v b ≡ rank_in w b = rank-same v w b (λ j low. is.differ.bit.same j (omega arith) (λ e. absurd (omega arith))) in
        ap (option_and_then (value_by_group ys b)) is.wider.here
        ∙ (value-on (λ k. slice_get ys (start + k)) v b (one-is-set v b is.differ.bit.set) ∙ ap (λ k. slice_get ys (start + k)) rank)

    pub none-before : option_and_then (value_by_group xs b) (small q) ≡ None
    none-before = by-word xs w b start (small q) is.lower is.lower_none ∙ value-off (λ k. slice_get xs (start + k)) w b (zero-is-clear w b is.differ.bit.clear)

before-empty : (group : ℕ → Option Group) (q : ℕ) → ((p : ℕ) → group p ≡ None) → values_before group q ≡ 0
before-empty group zero none = before-none group
before-empty group (suc q) none =
    let lower = before-empty group q none in
    let step = before-more group q in
    let here : count_ones (word_or_none (group q)) ≡ count_ones 0 = ap (λ o. count_ones (word_or_none o)) (none q) in
    let few = ones_le_self 0 in
    omega (arith, lower, step, here, few)

-- no group has values
pub none-laid : (group : ℕ → Option Group) → ((p : ℕ) → group p ≡ None) → AreLaidOut group 0
none-laid group none = record {
  nonzero = λ q g small some. absurd (none-some g (sym (none q) ∙ some));
  fits = λ q g small some. absurd (none-some g (sym (none q) ∙ some));
  starts = λ q g small some. absurd (none-some g (sym (none q) ∙ some));
  all = sym (before-empty group 64 none);
}

-- the same groups are laid out as well
pub laid-same : (g h : ℕ → Option Group) (n : ℕ) → ((q : ℕ) → h q ≡ g q) → AreLaidOut g n → AreLaidOut h n
laid-same g h n same laid = record {
  nonzero = λ q x small some. laid.nonzero q x small (sym (same q) ∙ some);
  fits = λ q x small some. laid.fits q x small (sym (same q) ∙ some);
  starts = λ q x small some. laid.starts q x small (sym (same q) ∙ some) ∙ sym (before-same g h q (λ p low. ap word_or_none (same p)));
  all = laid.all ∙ sym (before-same g h 64 (λ p low. ap word_or_none (same p)));
}

-- groups without values between two add none
pub before-gap : (group : ℕ → Option Group) (p k : ℕ) → ((r : ℕ) → p ≤ r → r < p + k → group r ≡ None) → values_before group (p + k) ≡ values_before group p
before-gap group p zero none = let e : p + 0 ≡ p = omega arith in ap (values_before group) e
before-gap group p (suc k) none =
    let e : p + suc k ≡ suc (p + k) = omega arith in
    let lower = before-gap group p k (λ r from upto. none r from (omega arith)) in
    let step = before-more group (p + k) in
    let here : count_ones (word_or_none (group (p + k))) ≡ count_ones 0 = ap (λ o. count_ones (word_or_none o)) (none (p + k) (omega arith) (omega arith)) in
    let few = ones_le_self 0 in
    rw e (omega (arith, lower, step, here, few))

-- where groups lie that are moved up from behind one on
pub widened-from : (root q v start : ℕ) (old : ℕ → Option Group) (mid new : List Group) → bit_at root q ≡ 1 → q < 64
    → ((p : ℕ) → p < 64 → value_from (slice_get mid) root p ≡ (if p == q then Some (record { word = v; start = start }) else old p))
    → AreMovedUp (rank_in root q + 1) mid new → IsWidenedAt q v start old (value_from (slice_get new) root)
widened-from root q v start old mid new on group put moved = record {
  before = λ p low.
      from-same (slice_get mid) (slice_get new) root p (λ bit.
      let rank = rank-before root p q low bit in
      moved.below (rank_in root p) (omega (arith, rank)))
      ∙ (put p (omega arith) ∙ (let other : (p == q) ≡ false = eq_other p q (λ e. absurd (omega arith)) in rw other refl));
  here =
      from-same (slice_get mid) (slice_get new) root q (λ bit. moved.below (rank_in root q) (omega arith))
      ∙ (put q group ∙ (let same : (q == q) ≡ true = eq_same q q refl in rw same refl));
  after = λ p high low.
      moved-value p high
      ∙ ap (option_map moved_up) (put p low ∙ (let other : (p == q) ≡ false = eq_other p q (λ e. absurd (omega arith)) in rw other refl));
}
  where
    moved-value : (p : ℕ) → q < p → value_from (slice_get new) root p ≡ option_map moved_up (value_from (slice_get mid) root p)
    moved-value p high = elim (cases_Bool (bit_is_set root p)) [
      | inl bit ↦
          let rank = rank-before root q p high on in
          value-on (slice_get new) root p bit
          ∙ (moved.above (rank_in root p) (omega (arith, rank)) ∙ ap (option_map moved_up) (sym (value-on (slice_get mid) root p bit)))
      | inr off ↦ value-off (slice_get new) root p off ∙ ap (option_map moved_up) (sym (value-off (slice_get mid) root p off))
    ]

-- a group has at most 64 values
pub before-few : (group : ℕ → Option Group) (n q : ℕ) → AreLaidOut group n → q ≤ 64 → values_before group q ≤ 64 * q
before-few group n zero laid few = let none = before-none group in omega (arith, none)
before-few group n (suc q) laid few =
    let lower = before-few group n q laid (omega arith) in
    let step = before-more group q in
    let ones = ones-few (group q) refl in
    omega (arith, lower, step, ones)
  where
    ones-few : (o : Option Group) → group q ≡ o → count_ones (word_or_none (group q)) ≤ 64
    ones-few None is = let z : count_ones (word_or_none (group q)) ≡ count_ones 0 = ap (λ p. count_ones (word_or_none p)) is in let small = ones_le_self 0 in omega (arith, z, small)
    ones-few (Some g) is = let e : count_ones (word_or_none (group q)) ≡ count_ones g.word = ap (λ p. count_ones (word_or_none p)) is in let small = few_ones g.word (laid.fits q g (omega arith) is) in omega (arith, e, small)

-- so there are at most 4,096 in all
pub laid-few : (group : ℕ → Option Group) (n : ℕ) → AreLaidOut group n → n ≤ 4096
laid-few group n laid = let few = before-few group n 64 laid (omega arith) in let all = laid.all in omega (arith, few, all)

-- Of these groups, those from one on and before another begin one place later.
pub record AreMovedUpTo (from upto : ℕ) (old new : List Group) : Type 0 where
  pub length : length new ≡ length old
  pub below : (k : ℕ) → k < from → slice_get new k ≡ slice_get old k
  pub moved : (k : ℕ) → from ≤ k → k < upto → slice_get new k ≡ option_map moved_up (slice_get old k)
  pub rest : (k : ℕ) → upto ≤ k → slice_get new k ≡ slice_get old k

-- where the group of one bit is written over
pub written-over : (root q : ℕ) (items : List Group) (x : Group) → bit_at root q ≡ 1 → rank_in root q < length items
    → (p : ℕ) → p < 64 → value_from (slice_get (set items (rank_in root q) x)) root p ≡ (if p == q then Some x else value_from (slice_get items) root p)
written-over root q items x on within p low = elim (cases_order p q) [
  | inl same ↦ rw (eq_same p q same, same) (value-on (slice_get (set items (rank_in root q) x)) root q (one-is-set root q on) ∙ get-set_at items (rank_in root q) x within)
  | inr (inl less) ↦
      let other : (p == q) ≡ false = eq_other p q (λ e. absurd (omega arith)) in
      rw other (from-same (slice_get items) (slice_get (set items (rank_in root q) x)) root p (λ bit.
      let rank = rank-before root p q less bit in get-set_other items (rank_in root q) x (rank_in root p) (λ e. absurd (omega arith))))
  | inr (inr more) ↦
      let other : (p == q) ≡ false = eq_other p q (λ e. absurd (omega arith)) in
      rw other (from-same (slice_get items) (slice_get (set items (rank_in root q) x)) root p (λ bit.
      let rank = rank-before root q p more on in get-set_other items (rank_in root q) x (rank_in root p) (λ e. absurd (omega arith))))
]

moved-word : (o : Option Group) → word_or_none (option_map moved_up o) ≡ word_or_none o
moved-word None = refl
moved-word (Some g) = refl

pub word-fits : (group : ℕ → Option Group) (n q : ℕ) → AreLaidOut group n → q < 64 → word_or_none (group q) < 2 ^ 64
word-fits group n q laid small = by (group q) refl
  where
    by : (o : Option Group) → group q ≡ o → word_or_none (group q) < 2 ^ 64
    by None is = let e : word_or_none (group q) ≡ 0 = ap word_or_none is in omega (arith, e)
    by (Some g) is = let e : word_or_none (group q) ≡ g.word = ap word_or_none is in let f = laid.fits q g small is in omega (arith, e, f)

-- what a call that widens a group says of two tables
pub one-wider : (n q b start : ℕ) (small big : ℕ → Option Group) → AreLaidOut small n → q < 64 → start ≡ values_before small q → (is : IsWider q b start small big) → IsOneWider q is.word (word_or_none (small q)) b start small big
one-wider n q b start small big laid group begins is = record {
  differ = record {
    group = group;
    bit = is.set;
    wide = is.fits;
    narrow = word-fits small n q laid group;
    lower = refl;
    upper = ap word_or_none is.wider.here;
    others = λ p low other. elim (cases_order p q) [
      | inl same ↦ absurd (other same)
      | inr (inl less) ↦ ap word_or_none (is.wider.before p less)
      | inr (inr more) ↦ ap word_or_none (is.wider.after p more low) ∙ moved-word (small p)
    ];
  };
  begins = begins;
  lower = λ g some.
      let word : word_or_none (small q) ≡ g.word = ap word_or_none some in
      let nonzero = laid.nonzero q g group some in
      let starts = laid.starts q g group some in
      (sym word, starts ∙ sym begins, omega (arith, word, nonzero));
  lower_none = λ none. ap word_or_none none;
  wider = is.wider;
}

module _ {T : Type 0} where
  pub longer-insert : (xs ys : List T) (at : ℕ) (y : T) → at ≤ length xs → ys ≡ insert xs at y → IsLonger at xs ys
  longer-insert xs ys at y within put = record {
    below = λ k low. ap (λ zs. slice_get zs k) put ∙ get-insert_below xs at y k low within;
    above = λ k high. ap (λ zs. slice_get zs (suc k)) put ∙ get-insert_above xs at y k high within;
  }

  -- the values of a table, after one was put in
  pub put-values : (n q v w b start i : ℕ) (small big : ℕ → Option Group) (xs ys : List T) (y : T) → IsOneWider q v w b start small big → AreLaidOut small n → IsLonger (start + rank_in w b) xs ys
      → slice_get ys (start + rank_in w b) ≡ Some y → i ≡ 64 * q + b
      → (j : ℕ) → j < 4096 → value_of_place big ys j ≡ (if j == i then Some y else value_of_place small xs j)
  put-values n q v w b start i small big xs ys y is laid longer put place j low =
      let inside = is.differ.bit.within in
      let row : i / 64 ≡ q = omega (arith, place, inside) in
      let bit : i % 64 ≡ b = omega (arith, place, inside) in
      elim (same_or_not j i) [
        | inl same ↦ rw (eq_same j i same, same, row, bit) (this-place n q v w b start small big xs ys is laid longer ∙ put)
        | inr other ↦ rw (eq_other j i other) (other-places n q v w b start small big xs ys is laid longer (j / 64) (j % 64) (omega arith) (omega arith)
            (λ p-is c-is. other (omega (arith, p-is, c-is, place))))
      ]

  -- and after one was taken out
  pub cut-values : (n q v w b start i : ℕ) (small big : ℕ → Option Group) (xs ys : List T) → IsOneWider q v w b start small big → AreLaidOut small n → IsLonger (start + rank_in w b) xs ys
      → i ≡ 64 * q + b
      → (j : ℕ) → j < 4096 → value_of_place small xs j ≡ (if j == i then None else value_of_place big ys j)
  cut-values n q v w b start i small big xs ys is laid longer place j low =
      let inside = is.differ.bit.within in
      let row : i / 64 ≡ q = omega (arith, place, inside) in
      let bit : i % 64 ≡ b = omega (arith, place, inside) in
      elim (same_or_not j i) [
        | inl same ↦ rw (eq_same j i same, same, row, bit) (none-before n q v w b start small big xs ys is laid longer)
        | inr other ↦ rw (eq_other j i other) (sym (other-places n q v w b start small big xs ys is laid longer (j / 64) (j % 64) (omega arith) (omega arith)
            (λ p-is c-is. other (omega (arith, p-is, c-is, place)))))
      ]

-- two places with values have them at different places of the list
places-apart : (group : ℕ → Option Group) (n p q a b : ℕ) (g h : Group) → AreLaidOut group n → p < 64 → q < 64 → group p ≡ Some g → group q ≡ Some h → bit_at g.word a ≡ 1 → bit_at h.word b ≡ 1
    → g.start + rank_in g.word a ≡ h.start + rank_in h.word b → (p ≡ q → a ≢ b) → ⊥
places-apart group n p q a b g h laid low_p low_q is_p is_q on_a on_b same other = elim (cases_order p q) [
  | inl e ↦
      let g-is : g ≡ h = same_Some g h (sym is_p ∙ (ap group e ∙ is_q)) in
      let word : g.word ≡ h.word = ap (λ x. x.word) g-is in
      let start : g.start ≡ h.start = ap (λ x. x.start) g-is in
      let rank : rank_in g.word a ≡ rank_in h.word a = ap (λ w. rank_in w a) word in
      let on : bit_at h.word a ≡ 1 = sym (ap (λ w. bit_at w a) word) ∙ on_a in
      elim (cases_order a b) [
        | inl bits ↦ other e bits
        | inr (inl less) ↦ (let before = rank-before h.word a b less on in omega (arith, same, start, rank, before))
        | inr (inr more) ↦ (let before = rank-before h.word b a more on_b in omega (arith, same, start, rank, before))
      ]
  | inr (inl less) ↦
      let here = place-within group n p a g laid low_p is_p on_a in
      let rest = before-upto group (suc p) q (omega arith) in
      let starts = laid.starts q h low_q is_q in
      omega (arith, here, rest, starts, same)
  | inr (inr more) ↦
      let here = place-within group n q b h laid low_q is_q on_b in
      let rest = before-upto group (suc q) p (omega arith) in
      let starts = laid.starts p g low_p is_p in
      omega (arith, here, rest, starts, same)
]

module _ {T : Type 0} where
  -- the values of a table, after one was written over
  pub set-values : (group : ℕ → Option Group) (n i at : ℕ) (xs : List T) (y : T) → AreLaidOut group n → i < 4096 → IsPlace group i at → at < length xs
      → (j : ℕ) → j < 4096 → value_of_place group (set xs at y) j ≡ (if j == i then Some y else value_of_place group xs j)
  set-values group n i at xs y laid low_i is within j low = elim (same_or_not j i) [
    | inl same ↦ rw (eq_same j i same, same)
        (ap (option_and_then (value_by_group (set xs at y) (i % 64))) is.is
        ∙ (value-on (λ k. slice_get (set xs at y) (is.of.start + k)) is.of.word (i % 64) (one-is-set is.of.word (i % 64) is.on)
        ∙ (ap (slice_get (set xs at y)) (sym is.place) ∙ get-set_at xs at y within)))
    | inr other ↦ rw (eq_other j i other) (same-group xs (set xs at y) (j % 64) (group (j / 64)) (λ g some.
        from-same (λ k. slice_get xs (g.start + k)) (λ k. slice_get (set xs at y) (g.start + k)) g.word (j % 64) (λ on.
        get-set_other xs at y (g.start + rank_in g.word (j % 64)) (λ e.
        places-apart group n (j / 64) (i / 64) (j % 64) (i % 64) g is.of laid (omega arith) (omega arith) some is.is on is.on (e ∙ is.place)
        (λ rows bits. other (omega (arith, rows, bits)))))))
  ]

-- Of these groups, those from one on and before another begin one place sooner.
pub record AreMovedDownTo (from upto : ℕ) (old new : List Group) : Type 0 where
  pub length : length new ≡ length old
  pub below : (k : ℕ) → k < from → slice_get old k ≡ slice_get new k
  pub moved : (k : ℕ) → from ≤ k → k < upto → slice_get old k ≡ option_map moved_up (slice_get new k)
  pub rest : (k : ℕ) → upto ≤ k → slice_get new k ≡ slice_get old k

-- where groups lay that were moved down from behind one on
pub narrowed-from : (root q : ℕ) (old mid : List Group) → bit_at root q ≡ 1 → AreMovedUp (rank_in root q + 1) mid old
    → ((p : ℕ) → p < q → value_from (slice_get mid) root p ≡ value_from (slice_get old) root p) × ((p : ℕ) → q < p → value_from (slice_get old) root p ≡ option_map moved_up (value_from (slice_get mid) root p))
narrowed-from root q old mid on moved = (λ p low. before p low, λ p high. after p high)
  where
    before : (p : ℕ) → p < q → value_from (slice_get mid) root p ≡ value_from (slice_get old) root p
    before p low = from-same (slice_get old) (slice_get mid) root p (λ bit.
        let rank = rank-before root p q low bit in sym (moved.below (rank_in root p) (omega (arith, rank))))

    after : (p : ℕ) → q < p → value_from (slice_get old) root p ≡ option_map moved_up (value_from (slice_get mid) root p)
    after p high = elim (cases_Bool (bit_is_set root p)) [
      | inl bit ↦
          let rank = rank-before root q p high on in
          value-on (slice_get old) root p bit
          ∙ (moved.above (rank_in root p) (omega (arith, rank)) ∙ ap (option_map moved_up) (sym (value-on (slice_get mid) root p bit)))
      | inr off ↦ value-off (slice_get old) root p off ∙ ap (option_map moved_up) (sym (value-off (slice_get mid) root p off))
    ]

-- what a call that narrows a group says of two tables
pub one-narrower : (n q b : ℕ) (small big : ℕ → Option Group) → AreLaidOut big n → q < 64 → (is : IsNarrower q b big small) → IsOneWider q is.of.word is.word b is.of.start small big
one-narrower n q b small big laid group is = record {
  differ = record {
    group = group;
    bit = is.set;
    wide = laid.fits q is.of group is.is;
    narrow = is.fits;
    lower = lower-word;
    upper = ap word_or_none is.is;
    others = λ p low other. elim (cases_order p q) [
      | inl same ↦ absurd (other same)
      | inr (inl less) ↦ ap word_or_none (sym (is.before p less))
      | inr (inr more) ↦ ap word_or_none (is.after p more low) ∙ moved-word (small p)
    ];
  };
  begins = (let starts = laid.starts q is.of group is.is in
      let same = before-same small big q (λ p below. ap word_or_none (sym (is.before p below))) in
      starts ∙ same);
  lower = λ g some. lower-group g some;
  lower_none = λ none. elim (cases_lt 0 is.word) [
    | inl some ↦ absurd (none-some (record { word = is.word; start = is.of.start }) (sym none ∙ is.here some))
    | inr zero_word ↦ omega (arith, zero_word)
  ];
  wider = record {
    before = λ p low. sym (is.before p low);
    here = is.is;
    after = λ p high low. is.after p high low;
  };
}
  where
    lower-word : word_or_none (small q) ≡ is.word
    lower-word = elim (cases_lt 0 is.word) [
      | inl some ↦ ap word_or_none (is.here some)
      | inr zero_word ↦ (let z : is.word ≡ 0 = omega (arith, zero_word) in ap word_or_none (is.gone z) ∙ sym z)
    ]

    lower-group : (g : Group) → small q ≡ Some g → (g.word ≡ is.word) × (g.start ≡ is.of.start) × (0 < is.word)
    lower-group g some = elim (cases_lt 0 is.word) [
      | inl above ↦
          let g-is : record { word = is.word; start = is.of.start } ≡ g = same_Some (record { word = is.word; start = is.of.start }) g (sym (is.here above) ∙ some) in
          (sym (ap (λ h. h.word) g-is), sym (ap (λ h. h.start) g-is), above)
      | inr zero_word ↦ absurd (none-some g (sym (is.gone (omega (arith, zero_word))) ∙ some))
    ]

module _ {T : Type 0} where
  pub longer-remove : (xs ys : List T) (at : ℕ) → at < length ys → xs ≡ remove ys at → IsLonger at xs ys
  longer-remove xs ys at within cut = record {
    below = λ k low. sym (ap (λ zs. slice_get zs k) cut ∙ get-remove_below ys at k low within);
    above = λ k high. sym (ap (λ zs. slice_get zs k) cut ∙ get-remove_above ys at k high within);
  }
