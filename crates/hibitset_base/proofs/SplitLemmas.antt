-- What a walk that was divided has left, and what its parts have.
use Rattle.std.proofs.Common.{◌≡◌, ◌≢◌, ℕ, zero, suc, ◌+◌, ◌-◌, ◌*◌, ◌/◌, ◌%◌, ◌^◌, ◌<◌, ◌≤◌, Bool, List, [], ◌∷◌, ◌++◌, All, length, length-append, append_assoc, pow-add, sym, ◌∙◌, ap, subst, arith, lit<}
use Rattle.std.specs.Int.{bit_at}
use Rattle.std.proofs.Math.Nat.{pow-succ', one-le-pow, div-div-eq-div-mul}
use Rattle.std.proofs.lemmas.List.Elements.{All-nil, All-cons, All-head, All-tail, All-append}
use Rattle.std.proofs.lemmas.Grind.{flat_map-append}
use Rattle.hibitset_base.specs.Sets.{IsLawful, SummariesExact}
use Rattle.hibitset_base.specs.Places.{Place, items_under, items_of}
use Rattle.hibitset_base.specs.WordsRead.{words_under, words_of, BitIsSet, AllAreSet, ReadsTo, CoversWords}
use Rattle.hibitset_base.specs.Cursor.{cursor_places}
use Rattle.hibitset_base.specs.PlaceHalves.{LiesInWord, AreCut}
use Rattle.hibitset_base.specs.Division.{IsUndivided, IsDivided}
use Rattle.hibitset_base.specs.Splits.{LieInOneRange, ShareNoRange, AreWords}
use Rattle.hibitset_base.specs.Walk.{items_left, words_ahead, BitsAreFromSet}
use Rattle.hibitset_base.specs.declared.iter.BitIter.{BitIter}
use Rattle.hibitset_base.specs.declared.util.TheConstants.{LAYERS}
use Rattle.hibitset_base.proofs.ListLemmas.{all_left, all_right, all_both, all_weaker, all_found}
use Rattle.hibitset_base.proofs.ReadBoundLemmas.{quotient_is, some-members, some_under}
use Rattle.hibitset_base.proofs.ReadsToLemmas.{goes_both}
use Rattle.hibitset_base.proofs.CutLemmas.{alone_in_word}

-- the items under a place lie in its range
range_of_place : (p : ℕ → Bool) (l q : ℕ) → All (λ i. i / 64 ^ l ≡ q) (items_under p l q)
range_of_place p zero q = All-cons (λ i. i / 64 ^ 0 ≡ q) q [] (let one : q / 1 ≡ q = omega arith in one) (All-nil (λ i. i / 64 ^ 0 ≡ q))
range_of_place p (suc l) q = all_found (λ i. i / 64 ^ suc l ≡ q) p (q * 64 ^ suc l) (64 ^ suc l) (λ i from below holds. quotient_is i q (64 ^ suc l) (one-le-pow (suc l) 64 (lit< tt)) from below)

-- what holds of the items under each place holds of all items
all_items : (P : ℕ → Type 0) (p : ℕ → Bool) (ps : List Place) → All (λ place. All P (items_under p place.layer place.position)) ps → All P (items_of p ps)
all_items P p [] h = All-nil P
all_items P p (x ∷ ps) h =
    All-append P (items_under p x.layer x.position) (items_of p ps) (All-head (λ place. All P (items_under p place.layer place.position)) x ps h)
    (all_items P p ps (All-tail (λ place. All P (items_under p place.layer place.position)) x ps h))

-- a range of a layer lies in one of each layer above
quotient_above : (i k d : ℕ) → i / 64 ^ (k + d) ≡ i / 64 ^ k / 64 ^ d
quotient_above i k d = ap (λ x. i / x) (pow-add 64 k d) ∙ sym (div-div-eq-div-mul i (64 ^ k) (64 ^ d))

range_above : (i l q w k : ℕ) → l < k → i / 64 ^ l ≡ q → q / 64 ≡ w → i / 64 ^ k ≡ w / 64 ^ (k - (l + 1))
range_above i l q w k above here word =
    let d : ℕ = k - (l + 1) in
    let k-is : k ≡ l + suc d = omega arith in
    let e : 64 ^ suc d ≡ 64 * 64 ^ d = pow-succ' 64 d in
    ap (λ x. i / 64 ^ x) k-is
    ∙ (quotient_above i l (suc d)
    ∙ (ap (λ x. x / 64 ^ suc d) here
    ∙ (ap (λ x. q / x) e
    ∙ (sym (div-div-eq-div-mul q 64 (64 ^ d)) ∙ ap (λ x. x / 64 ^ d) word))))

-- the items of places in one word lie in one range of each layer above
pub in_one_range : (n l k : ℕ) (p : ℕ → Bool) (ps : List Place) → LiesInWord n l ps → l < k → LieInOneRange (64 ^ k) (items_of p ps)
in_one_range n l k p ps lies above = (
  lies.word / 64 ^ (k - (l + 1)),
  all_items (λ i. i / 64 ^ k ≡ lies.word / 64 ^ (k - (l + 1))) p ps
      (all_weaker (λ place. (place.layer ≡ l) × (place.position / 64 ≡ lies.word)) (λ place. All (λ i. i / 64 ^ k ≡ lies.word / 64 ^ (k - (l + 1))) (items_under p place.layer place.position))
      (λ place h. all_weaker (λ i. i / 64 ^ place.layer ≡ place.position) (λ i. i / 64 ^ k ≡ lies.word / 64 ^ (k - (l + 1)))
      (λ i here. range_above i l place.position lies.word k above (subst (λ x. i / 64 ^ x ≡ place.position) h.0 here) h.1)
      (items_under p place.layer place.position) (range_of_place p place.layer place.position))
      ps lies.places),
)

module _ (n l : ℕ) (p : ℕ → Bool) (ps xs ys : List Place) (lies : LiesInWord n l ps) (cut : AreCut ps xs ys) where
  both : All (λ place. (place.layer ≡ l) × (place.position / 64 ≡ lies.word)) (xs ++ ys)
  both = subst (λ zs. All (λ place. (place.layer ≡ l) × (place.position / 64 ≡ lies.word)) zs) cut.all lies.places

  lies_before : All (λ place. (place.layer ≡ l) × (place.position / 64 ≡ lies.word)) xs
  lies_before = all_left (λ place. (place.layer ≡ l) × (place.position / 64 ≡ lies.word)) xs ys both

  lies_after : All (λ place. (place.layer ≡ l) × (place.position / 64 ≡ lies.word)) ys
  lies_after = all_right (λ place. (place.layer ≡ l) × (place.position / 64 ≡ lies.word)) xs ys both

  items_before : All (λ i. i / 64 ^ l < cut.edge) (items_of p xs)
  items_before =
      all_items (λ i. i / 64 ^ l < cut.edge) p xs
      (all_both (λ place. (place.layer ≡ l) × (place.position / 64 ≡ lies.word)) (λ place. place.position < cut.edge) (λ place. All (λ i. i / 64 ^ l < cut.edge) (items_under p place.layer place.position))
      (λ place h lower. all_weaker (λ i. i / 64 ^ place.layer ≡ place.position) (λ i. i / 64 ^ l < cut.edge)
      (λ i here. let e : i / 64 ^ l ≡ place.position = subst (λ x. i / 64 ^ x ≡ place.position) h.0 here in omega (arith, e, lower))
      (items_under p place.layer place.position) (range_of_place p place.layer place.position))
      xs lies_before cut.lower)

  items_after : All (λ i. cut.edge ≤ i / 64 ^ l) (items_of p ys)
  items_after =
      all_items (λ i. cut.edge ≤ i / 64 ^ l) p ys
      (all_both (λ place. (place.layer ≡ l) × (place.position / 64 ≡ lies.word)) (λ place. cut.edge ≤ place.position) (λ place. All (λ i. cut.edge ≤ i / 64 ^ l) (items_under p place.layer place.position))
      (λ place h upper. all_weaker (λ i. i / 64 ^ place.layer ≡ place.position) (λ i. cut.edge ≤ i / 64 ^ l)
      (λ i here. let e : i / 64 ^ l ≡ place.position = subst (λ x. i / 64 ^ x ≡ place.position) h.0 here in omega (arith, e, upper))
      (items_under p place.layer place.position) (range_of_place p place.layer place.position))
      ys lies_after cut.upper)

  -- no range of a layer up to this one has items of both
  pub share_no_range : (k : ℕ) → k ≤ l → ShareNoRange (64 ^ k) (items_of p xs) (items_of p ys)
  share_no_range k below =
      let d : ℕ = l - k in
      let l-is : l ≡ k + d = omega arith in
      all_weaker (λ i. i / 64 ^ l < cut.edge) (λ i. All (λ j. i / 64 ^ k ≢ j / 64 ^ k) (items_of p ys))
      (λ i before. all_weaker (λ j. cut.edge ≤ j / 64 ^ l) (λ j. i / 64 ^ k ≢ j / 64 ^ k)
      (λ j after same.
      let a : i / 64 ^ l ≡ i / 64 ^ k / 64 ^ d = ap (λ x. i / 64 ^ x) l-is ∙ quotient_above i k d in
      let b : j / 64 ^ l ≡ j / 64 ^ k / 64 ^ d = ap (λ x. j / 64 ^ x) l-is ∙ quotient_above j k d in
      let c : i / 64 ^ k / 64 ^ d ≡ j / 64 ^ k / 64 ^ d = ap (λ x. x / 64 ^ d) same in
      let e : i / 64 ^ l ≡ j / 64 ^ l = a ∙ (c ∙ sym b) in
      absurd (omega (arith, e, before, after)))
      (items_of p ys) items_after)
      (items_of p xs) items_before

-- a place above layer 0 that stands in a set with exact summaries has an item
some_item : (n l q : ℕ) (p : ℕ → Bool) (w : ℕ → ℕ → ℕ) → IsLawful n p w → SummariesExact n w → AreWords w → suc l < n → q / 64 < 64 ^ (n - 2 - l) → bit_at (w (suc l) (q / 64)) (q % 64) ≡ 1 → 0 < length (items_under p (suc l) q)
some_item n l q p w lawful exact words layer above stands =
    let encloses : CoversWords n p w w = record { lawful = lawful; exact = exact; words = words; inside = λ a x b h. h } in
    let one : l + 1 ≡ suc l = omega arith in
    let stands_here : bit_at (w (l + 1) (q / 64)) (q % 64) ≡ 1 = rw one stands in
    let some : 0 < w l (64 * (q / 64) + q % 64) = (exact.exact l (q / 64) (q % 64) (omega arith) above (omega arith)).0 stands_here in
    let whole : 64 * (q / 64) + q % 64 ≡ q = omega arith in
    let some_here : 0 < w l q = rw whole at some in
    let k : ℕ = n - 2 - l in
    let ss : 64 ^ suc k ≡ 64 * 64 ^ k = pow-succ' 64 k in
    let f = some_under n p w w encloses l (suc k) q (omega arith) (rw ss (omega arith)) some_here in
    some-members p (q * 64 ^ suc l) (64 ^ suc l) f.at f.from f.below f.holds

-- places above layer 0 that stand in a set with exact summaries have items
pub some_items : (n l word : ℕ) (p : ℕ → Bool) (w : ℕ → ℕ → ℕ) (xs : List Place) → IsLawful n p w → SummariesExact n w → AreWords w → 0 < l → l < n → word < 64 ^ (n - 1 - l)
    → All (λ place. (place.layer ≡ l) × (place.position / 64 ≡ word)) xs → AllAreSet w xs → 0 < length xs → 0 < length (items_of p xs)
some_items n l word p w [] lawful exact words above layer within lies drawn some = absurd (omega arith)
some_items n l word p w (x ∷ xs) lawful exact words above layer within lies drawn some =
    let here = All-head (λ place. (place.layer ≡ l) × (place.position / 64 ≡ word)) x xs lies in
    let l-is : x.layer ≡ suc (l - 1) = (let e = here.0 in omega arith) in
    let stands : bit_at (w x.layer (x.position / 64)) (x.position % 64) ≡ 1 = All-head (BitIsSet w) x xs drawn in
    let stands_here : bit_at (w (suc (l - 1)) (x.position / 64)) (x.position % 64) ≡ 1 = subst (λ y. bit_at (w y (x.position / 64)) (x.position % 64) ≡ 1) l-is stands in
    let k-is : n - 1 - l ≡ n - 2 - (l - 1) = omega arith in
    let within_here : x.position / 64 < 64 ^ (n - 2 - (l - 1)) = (let e = here.1 in let h = rw k-is at within in omega arith) in
    let first : 0 < length (items_under p (suc (l - 1)) x.position) = some_item n (l - 1) x.position p w lawful exact words (omega arith) within_here stands_here in
    let first_here : 0 < length (items_under p x.layer x.position) = subst (λ y. 0 < length (items_under p y x.position)) (sym l-is) first in
    let both = length-append (items_under p x.layer x.position) (items_of p xs) in
    omega arith

module _ {S : Type 0} (holds : S → ℕ → Bool) (word : S → ℕ → ℕ → ℕ) where
  pub undivided_after : (a b : ℕ) (x y z : BitIter S) → IsUndivided holds word a x y → y.set ≡ x.set → IsUndivided holds word b y z → IsUndivided holds word b x z
  undivided_after a b x y z first set second = record {
    goes = goes_both first.goes (subst (λ s. ReadsTo LAYERS (holds s) (word s) y.reads.count (cursor_places y.cursor) z.reads.count (cursor_places z.cursor)) set second.goes);
    below = second.below;
  }

  pub divided_after : (a b lowest : ℕ) (x y z other : BitIter S) → IsUndivided holds word a x y → y.set ≡ x.set → IsDivided holds word b y z other → lowest ≤ b → IsDivided holds word lowest x z other
  divided_after a b lowest x y z other first set second above = record {
    places = second.places;
    goes = goes_both first.goes (subst (λ s. ReadsTo LAYERS (holds s) (word s) y.reads.count (cursor_places y.cursor) z.reads.count second.places) set second.goes);
    layer = second.layer;
    from = (let h = second.from in omega arith);
    lies = second.lies;
    cut = second.cut;
  }

  module _ (lowest : ℕ) (old new : BitIter S) (set : new.set ≡ old.set) where
    pub range_undivided : lowest ≤ LAYERS → IsUndivided holds word lowest old new → LieInOneRange (64 ^ lowest) (items_left holds old)
    unfolding items_left
    range_undivided top h =
        let below = h.below in
        let at : ℕ = below.0 in
        let lower = below.1 in
        let lies : LiesInWord LAYERS at (cursor_places new.cursor) = alone_in_word LAYERS at new.cursor.masks new.cursor.prefix new.cursor.formed (omega arith) below.2 in
        rw (← h.goes.items) (in_one_range LAYERS at lowest (holds old.set) (cursor_places new.cursor) lies below.1)

    module _ (other : BitIter S) (other_set : other.set ≡ old.set) (h : IsDivided holds word lowest old new other) where
      pub apart_divided : ShareNoRange (64 ^ lowest) (items_left holds new) (items_left holds other)
      unfolding items_left
      apart_divided = rw (set, other_set) (share_no_range LAYERS h.layer (holds old.set) h.places (cursor_places new.cursor) (cursor_places other.cursor) h.lies h.cut lowest h.from)

      drawn_both : BitsAreFromSet word old → AllAreSet (word old.set) (cursor_places new.cursor ++ cursor_places other.cursor)
      drawn_both drawn = subst (AllAreSet (word old.set)) h.cut.all (h.goes.from_set drawn)

      pub drawn_divided : BitsAreFromSet word old → BitsAreFromSet word new × BitsAreFromSet word other
      drawn_divided drawn = rw (set, other_set) (
        all_left (BitIsSet (word old.set)) (cursor_places new.cursor) (cursor_places other.cursor) (drawn_both drawn),
        all_right (BitIsSet (word old.set)) (cursor_places new.cursor) (cursor_places other.cursor) (drawn_both drawn),
      )

      pub some_divided : 0 < lowest → IsLawful LAYERS (holds old.set) (word old.set) → SummariesExact LAYERS (word old.set) → AreWords (word old.set) → BitsAreFromSet word old → (0 < length (items_left holds new)) × (0 < length (items_left holds other))
      unfolding items_left
      some_divided above lawful exact words drawn =
          let from = h.from in
          rw (set, other_set) (
            some_items LAYERS h.layer h.lies.word (holds old.set) (word old.set) (cursor_places new.cursor) lawful exact words (omega arith) h.lies.layer h.lies.within
                (lies_before LAYERS h.layer (holds old.set) h.places (cursor_places new.cursor) (cursor_places other.cursor) h.lies h.cut)
                (all_left (BitIsSet (word old.set)) (cursor_places new.cursor) (cursor_places other.cursor) (drawn_both drawn)) h.cut.some_before,
            some_items LAYERS h.layer h.lies.word (holds old.set) (word old.set) (cursor_places other.cursor) lawful exact words (omega arith) h.lies.layer h.lies.within
                (lies_after LAYERS h.layer (holds old.set) h.places (cursor_places new.cursor) (cursor_places other.cursor) h.lies h.cut)
                (all_right (BitIsSet (word old.set)) (cursor_places new.cursor) (cursor_places other.cursor) (drawn_both drawn)) h.cut.some_after,
          )

      pub words_divided : words_ahead word old ≡ h.goes.taken ++ words_ahead word new ++ words_ahead word other
      words_divided =
          rw (set, other_set)
          (h.goes.ahead
          ∙ (ap (λ qs. h.goes.taken ++ words_of (word old.set) qs) h.cut.all
          ∙ (ap (λ ws. h.goes.taken ++ ws) (flat_map-append (λ place. words_under (word old.set) place.layer place.position) (cursor_places new.cursor) (cursor_places other.cursor))
          ∙ sym (append_assoc h.goes.taken (words_of (word old.set) (cursor_places new.cursor)) (words_of (word old.set) (cursor_places other.cursor))))))
