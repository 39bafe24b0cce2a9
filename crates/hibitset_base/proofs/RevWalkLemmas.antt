-- Walks from the last member down.
use Rattle.std.proofs.Common.{◌≡◌, ◌≢◌, ℕ, zero, suc, ◌+◌, ◌-◌, ◌*◌, ◌/◌, ◌%◌, ◌^◌, ◌<◌, ◌≤◌, Bool, true, cond, ◌==◌, List, [], ◌∷◌, ◌++◌, length, get_or, reverse, Option, None, Some, MatchOption, refl, sym, ◌∙◌, ap, arith, length-append, inl, inr}
use Rattle.std.specs.Int.{bit_at, trailing_zeros, w64}
use Rattle.std.specs.Iterator.Runs.{YieldsInOrder}
use Rattle.std.proofs.iter.runs.Sources.{from_front, as_is}
use Rattle.std.proofs.Math.Nat.{pow-succ'}
use Rattle.std.proofs.lemmas.Bool.{cases_lt}
use Rattle.std.proofs.lemmas.Grind.{flat_map-append}
use Rattle.std.proofs.lemmas.List.{append-nil, reverse-append, length-reverse}
use Rattle.std.proofs.lemmas.List.Elements.{All-append, All-pop}
use Rattle.std.proofs.lemmas.Nat.Bits.{bit_at-lt}
use mathlib.Core.List.{reverse_aux, reverse_aux-append}
use Rattle.hibitset_base.specs.Members.{members, members_below}
use Rattle.hibitset_base.specs.Sets.{IsLawful, SummariesExact}
use Rattle.hibitset_base.specs.Places.{Place, places_in, bits_from, items_under, items_of}
use Rattle.hibitset_base.specs.WordsRead.{words_under, words_of, BitIsSet, AllAreSet, depth}
use Rattle.hibitset_base.specs.RevPlaces.{rev_places, GoesBack}
use Rattle.hibitset_base.specs.RevCursor.{rev_left}
use Rattle.hibitset_base.specs.RevWalk.{rev_set_of, rev_items_left, RevStepKeeps, RevWalkSteps}
use Rattle.hibitset_base.specs.declared.rev_iter.BitRevIter.{BitRevIter}
use Rattle.hibitset_base.specs.declared.util.TheConstants.{LAYERS}
use Rattle.hibitset_base.proofs.DescentLemmas.{drawn_from_word, fewer_after}
use Rattle.hibitset_base.proofs.LayerLemmas.{one_member, read_word}
use Rattle.hibitset_base.proofs.PlaceLemmas.{eq_one, eq_none, bits-first}
use Rattle.hibitset_base.proofs.MaskLemmas.{takes_first}
use Rattle.hibitset_base.proofs.MemberLemmas.{members-none, members-same, members-append, members-length}

one_alone : (t : Bool) (x : ℕ) → t ≡ true → cond t (x ∷ []) [] ≡ x ∷ []
one_alone t x e = rw e refl

-- The last bit of a word is the last of its list, before which come those of the word without it.
module _ (s m r b : ℕ) (small : b < 64) (on : bit_at m b ≡ 1) (last : (c : ℕ) → bit_at m c ≡ 1 → c ≤ b) (gone : bit_at r b ≡ 0) (same : (c : ℕ) → c < 64 → c ≢ b → bit_at r c ≡ bit_at m c) where
  test : ℕ → ℕ → Bool
  test v i = bit_at v (i - s) == 1

  d : ℕ
  d = 63 - b

  -- the bits before it, itself, and those after it
  split : (v : ℕ) → members (test v) s 64 ≡ members (test v) s b ++ (members (test v) (s + b) 1 ++ members (test v) (s + b + 1) d)
  unfolding d
  split v =
      let all : 64 ≡ b + (1 + (63 - b)) = omega arith in
      ap (members (test v) s) all ∙ (members-append (test v) s b (1 + (63 - b)) ∙ ap (λ xs. members (test v) s b ++ xs) (members-append (test v) (s + b) 1 (63 - b)))

  off_after : (i : ℕ) → s + b + 1 ≤ i → bit_at m (i - s) ≡ 0
  off_after i from = elim (cases_lt (bit_at m (i - s)) 1) [
    | inl none ↦ omega (arith, none)
    | inr some ↦ absurd (let few = bit_at-lt m (i - s) in let h = last (i - s) (omega (arith, few, some)) in omega (arith, h, from))
  ]

  none_after : members (test m) (s + b + 1) d ≡ []
  unfolding test d
  none_after = members-none (test m) (s + b + 1) (63 - b) (λ i from below. eq_none (bit_at m (i - s)) (off_after i from))

  none_after_rest : members (test r) (s + b + 1) d ≡ []
  unfolding test d
  none_after_rest = members-none (test r) (s + b + 1) (63 - b) (λ i from below. eq_none (bit_at r (i - s)) (same (i - s) (omega arith) (omega arith) ∙ off_after i from))

  lower : members (test m) s b ≡ members (test r) s b
  unfolding test
  lower = members-same (test m) (test r) s b (λ i from below. ap (λ x. x == 1) (sym (same (i - s) (omega arith) (omega arith))))

  one : members (test m) (s + b) 1 ≡ (s + b) ∷ []
  unfolding test
  one =
      let here : s + b - s ≡ b = omega arith in
      sym (one_member (test m) (s + b)) ∙ one_alone (test m (s + b)) (s + b) (eq_one (bit_at m (s + b - s)) (ap (bit_at m) here ∙ on))

  none : members (test r) (s + b) 1 ≡ []
  unfolding test
  none = members-none (test r) (s + b) 1 (λ i from below. eq_none (bit_at r (i - s)) (let e : i - s ≡ b = omega arith in ap (bit_at r) e ∙ gone))

  rest_is : members (test r) s 64 ≡ members (test r) s b
  rest_is =
      split r
      ∙ (ap (λ xs. members (test r) s b ++ (members (test r) (s + b) 1 ++ xs)) none_after_rest
      ∙ (ap (λ xs. members (test r) s b ++ xs) (append-nil (members (test r) (s + b) 1) ∙ none) ∙ append-nil (members (test r) s b)))

  pub bits_last : bits_from s m ≡ bits_from s r ++ ((s + b) ∷ [])
  unfolding test
  bits_last =
      split m
      ∙ (ap (λ xs. members (test m) s b ++ (members (test m) (s + b) 1 ++ xs)) none_after
      ∙ (ap (λ xs. members (test m) s b ++ xs) (append-nil (members (test m) (s + b) 1) ∙ one)
      ∙ ap (λ xs. xs ++ ((s + b) ∷ [])) (lower ∙ sym rest_is)))

-- several reads
module _ {n : ℕ} {holds : ℕ → Bool} {word : ℕ → ℕ → ℕ} where
  pub stays_back : (r : ℕ) (ps : List Place) → GoesBack n holds word r ps r ps
  stays_back r ps = record { items = refl; count = refl; from_set = λ h. h; few = λ exact drawn. omega arith; some = λ exact drawn some. some }

  pub both_back : {r s t : ℕ} {ps qs xs : List Place} → GoesBack n holds word r ps s qs → GoesBack n holds word s qs t xs → GoesBack n holds word r ps t xs
  both_back a b = record {
    items = b.items ∙ a.items;
    count = b.count ∙ a.count;
    from_set = λ h. b.from_set (a.from_set h);
    few = λ exact drawn. let h = a.few exact drawn in let k = b.few exact (a.from_set drawn) in omega (arith, h, k);
    some = λ exact drawn some. b.some exact (a.from_set drawn) (a.some exact drawn some);
  }

-- a list with an element is not empty
some_behind : (xs : List Place) (y : Place) (ys : List Place) → xs ++ (y ∷ ys) ≢ []
some_behind [] y ys e = cc
some_behind (x ∷ xs) y ys e = cc

-- the last place of a row of places lies in their layer
depth_of_row : (l y : ℕ) (ys : List ℕ) (zs : List Place) → depth (reverse_aux (places_in l (y ∷ ys)) zs) ≡ l
depth_of_row l y [] zs = refl
depth_of_row l y (x ∷ ys) zs = depth_of_row l x ys ((record { layer = l; position = y }) ∷ zs)

depth_of_places : (l most : ℕ) (ys : List ℕ) (zs : List Place) → l ≤ most → depth zs ≤ most → depth (reverse_aux (places_in l ys) zs) ≤ most
depth_of_places l most [] zs here rest = rest
depth_of_places l most (y ∷ ys) zs here rest = let e = depth_of_row l y ys zs in omega (arith, e, here)

-- the next place of a walk down lies in one of its layers
deep : (m s : ℕ → ℕ) (n most : ℕ) (zs : List Place) → n ≤ suc most → depth zs ≤ most → depth (reverse_aux (rev_places m s n) zs) ≤ most
unfolding rev_places
deep m s zero most zs upto rest = rest
deep m s (suc l) most zs upto rest =
    let row : List Place = places_in l (bits_from (s l) (m l)) in
    let e = ap depth (reverse_aux-append row (rev_places m s l) zs) in
    let h = deep m s l most (reverse_aux row zs) (omega (arith, upto)) (depth_of_places l most (bits_from (s l) (m l)) zs (omega (arith, upto)) rest) in
    omega (arith, e, h)

pub few_layers_back : (m s : ℕ → ℕ) (d : ℕ) → depth (reverse (rev_places m s (suc d))) ≤ d
few_layers_back m s d = deep m s (suc d) d [] (omega arith) (omega arith)

-- the depth of a list with a last place
depth_last : (rest : List Place) (place : Place) → depth (reverse (rest ++ (place ∷ []))) ≡ place.layer
depth_last rest place = ap depth (reverse-append rest (place ∷ []))

depth_behind : (rest : List Place) (l y : ℕ) (ys : List ℕ) → depth (reverse (rest ++ places_in l (y ∷ ys))) ≡ l
depth_behind rest l y ys = ap depth (reverse_aux-append rest (places_in l (y ∷ ys)) []) ∙ depth_of_row l y ys (reverse_aux rest [])

-- Of a lawful set, the word under the last place is read, and its bits are put in the place's stead.
module _ (n : ℕ) (p : ℕ → Bool) (w : ℕ → ℕ → ℕ) (lawful : IsLawful n p w) (l q : ℕ) (layer : l + 1 < n) (within : q < 64 ^ (n - (l + 1))) (fits : w l q < 2 ^ 64) (rest : List Place) where
  abbrev place : Place
  place = record { layer = suc l; position = q }

  abbrev under : List Place
  under = places_in l (bits_from (64 * q) (w l q))

  same_items : items_of p (rest ++ under) ≡ items_of p (rest ++ (place ∷ []))
  same_items =
      flat_map-append (λ x. items_under p x.layer x.position) rest under
      ∙ (ap (λ ys. items_of p rest ++ ys) (read_word n p w lawful l (n - (l + 1)) q (omega arith) within ∙ sym (append-nil (items_under p (suc l) q)))
      ∙ sym (flat_map-append (λ x. items_under p x.layer x.position) rest (place ∷ [])))

  one_word : (r : ℕ) → r + 1 + length (words_of w (rest ++ under)) ≡ r + length (words_of w (rest ++ (place ∷ [])))
  one_word r =
      let a = ap length (flat_map-append (λ x. words_under w x.layer x.position) rest under) in
      let b = ap length (flat_map-append (λ x. words_under w x.layer x.position) rest (place ∷ [])) in
      let la = length-append (words_of w rest) (words_of w under) in
      let lb = length-append (words_of w rest) (words_of w (place ∷ [])) in
      let more = fewer_after w l q [] in
      let same = ap (λ ys. length (words_of w ys)) (append-nil under) in
      omega (arith, a, b, la, lb, more, same)

  some_bit : SummariesExact n w → BitIsSet w place → 0 < w l q
  some_bit exact stands =
      let k : ℕ = n - 2 - l in
      let k-is : n - (l + 1) ≡ suc k = omega arith in
      let ss : 64 ^ suc k ≡ 64 * 64 ^ k = pow-succ' 64 k in
      let within_here : q < 64 ^ suc k = rw k-is at within in
      let above : q / 64 < 64 ^ k = omega arith in
      let one : l + 1 ≡ suc l = omega arith in
      let here : bit_at (w (l + 1) (q / 64)) (q % 64) ≡ 1 = rw one stands in
      let some : 0 < w l (64 * (q / 64) + q % 64) = (exact.exact l (q / 64) (q % 64) layer above (omega arith)).0 here in
      let whole : 64 * (q / 64) + q % 64 ≡ q = omega arith in
      rw whole at some

  -- the bits of a nonzero word
  some_place : 0 < w l q → (first : ℕ) × (more : List ℕ) × (bits_from (64 * q) (w l q) ≡ first ∷ more)
  some_place some = (_, _, bits-first (64 * q) (w l q) (trailing_zeros w64 (w l q)) _ (takes_first (w l q) some fits))

  pub goes_down_back : (r : ℕ) → GoesBack n p w r (rest ++ (place ∷ [])) (r + 1) (rest ++ under)
  goes_down_back r = record {
    items = same_items;
    count = one_word r;
    from_set = λ drawn. All-append (BitIsSet w) rest under (All-pop (BitIsSet w) (rest ++ (place ∷ [])) rest (Some place) refl drawn).0 (drawn_from_word w l q);
    few = λ exact drawn.
        let there = some_place (some_bit exact (All-pop (BitIsSet w) (rest ++ (place ∷ [])) rest (Some place) refl drawn).1) in
        let new : depth (reverse (rest ++ under)) ≡ l = ap (λ ys. depth (reverse (rest ++ places_in l ys))) there.2 ∙ depth_behind rest l there.0 there.1 in
        let old = depth_last rest place in
        omega (arith, new, old);
    some = λ exact drawn _ none.
        let there = some_place (some_bit exact (All-pop (BitIsSet w) (rest ++ (place ∷ [])) rest (Some place) refl drawn).1) in
        some_behind rest (record { layer = l; position = there.0 }) (places_in l there.1) (ap (λ ys. rest ++ places_in l ys) (sym there.2) ∙ none);
  }

-- an item behind others is the first of the list reversed
pub last_item : (p : ℕ → Bool) (rest : List Place) (i : ℕ) → items_of p (rest ++ ((record { layer = 0; position = i }) ∷ [])) ≡ items_of p rest ++ (i ∷ [])
last_item p rest i = flat_map-append (λ x. items_under p x.layer x.position) rest ((record { layer = 0; position = i }) ∷ [])

last_words : (w : ℕ → ℕ → ℕ) (rest : List Place) (i : ℕ) → words_of w (rest ++ ((record { layer = 0; position = i }) ∷ [])) ≡ words_of w rest
last_words w rest i = flat_map-append (λ x. words_under w x.layer x.position) rest ((record { layer = 0; position = i }) ∷ []) ∙ append-nil (words_of w rest)

-- What a step shows of its cursor is what the walk's users see.
module _ {T : Type 0} (holds : T → ℕ → Bool) (word : T → ℕ → ℕ → ℕ) (old new : BitRevIter T) (set : new.set ≡ old.set) where
  keeps_back : {qs : List Place} → GoesBack LAYERS (holds old.set) (word old.set) old.reads.count (rev_left old.cursor) new.reads.count qs
      → words_of (word old.set) qs ≡ words_of (word old.set) (rev_left new.cursor) → (AllAreSet (word old.set) qs → AllAreSet (word old.set) (rev_left new.cursor)) → RevStepKeeps word old new
  unfolding rev_set_of
  keeps_back goes same drawn = record {
    set = set;
    count = (let all = goes.count in let e = ap length same in let f = ap (λ s. length (words_of (word s) (rev_left new.cursor))) set in omega (arith, all, e, f));
    from_set = λ before. rw set (drawn (goes.from_set before));
    few = λ exact before. let few = goes.few exact before in let most = few_layers_back (λ l. get_or old.cursor.masks l 0) (λ l. get_or old.cursor.starts l 0) (LAYERS - 1) in omega (arith, few, most);
  }

  pub steps_back : (r : Option ℕ) → (r ≡ None → rev_left new.cursor ≡ [])
      → MatchOption r (GoesBack LAYERS (holds old.set) (word old.set) old.reads.count (rev_left old.cursor) new.reads.count (rev_left new.cursor))
      (λ i. GoesBack LAYERS (holds old.set) (word old.set) old.reads.count (rev_left old.cursor) new.reads.count (rev_left new.cursor ++ ((record { layer = 0; position = i }) ∷ [])))
      → RevWalkSteps holds word old r new
  unfolding rev_items_left
  steps_back None end goes =
      let none : rev_left new.cursor ≡ [] = end refl in
      let items : rev_items_left holds new ≡ [] = ap (λ ps. reverse (items_of (holds new.set) ps)) none in
      ((ap reverse (sym goes.items ∙ ap (items_of (holds old.set)) none), items), keeps_back goes refl (λ h. h))
  steps_back (Some i) end goes =
      let last = last_item (holds old.set) (rev_left new.cursor) i in
      let turned : reverse (items_of (holds old.set) (rev_left old.cursor)) ≡ i ∷ reverse (items_of (holds old.set) (rev_left new.cursor)) =
      ap reverse (sym goes.items ∙ last) ∙ reverse-append (items_of (holds old.set) (rev_left new.cursor)) (i ∷ []) in
      (turned ∙ ap (λ s. i ∷ reverse (items_of (holds s) (rev_left new.cursor))) (sym set), keeps_back goes (last_words (word old.set) (rev_left new.cursor) i) (λ h. (All-pop (BitIsSet (word old.set)) _ (rev_left new.cursor) (Some (record { layer = 0; position = i })) refl h).0))

-- each run of such a walk gives what was left, in order
pub back_runs : {T : Type 0} (holds : T → ℕ → Bool) (word : T → ℕ → ℕ → ℕ) → YieldsInOrder (RevWalkSteps holds word) (rev_items_left holds)
back_runs holds word p s = as_is p (rev_items_left holds p.from) (from_front (RevWalkSteps holds word) (λ x. x) (rev_items_left holds) (λ t u h. ap length h.0.0) (λ t x u h. h.0) p s)

pub few_back : (p : ℕ → Bool) (bound : ℕ) {xs : List ℕ} → xs ≡ reverse (members_below bound p) → length xs ≤ bound
few_back p bound e = let few = members-length p 0 bound in let same = ap length e in let turned = length-reverse (members_below bound p) in omega (arith, few, same, turned)
