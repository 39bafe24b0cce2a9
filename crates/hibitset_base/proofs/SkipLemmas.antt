-- On the way to an index a walk passes the words that begin at it or before, and those that begin after it are ahead.
use Rattle.std.proofs.Common.{◌≡◌, ℕ, zero, suc, ◌+◌, ◌-◌, ◌*◌, ◌/◌, ◌%◌, ◌^◌, ◌<◌, ◌≤◌, Bool, cond, ◌==◌, List, [], ◌∷◌, ◌++◌, All, length, get_or, refl, sym, ◌∙◌, ap, subst, arith, inl, inr, length-append, append_assoc}
use Rattle.std.specs.Int.{bit_at}
use Rattle.std.specs.List.{flat_map}
use Rattle.std.proofs.Math.ListN.{set}
use Rattle.std.proofs.Math.Nat.{eq-or-lt_of_le, div-eq_of_lt}
use Rattle.std.proofs.lemmas.Nat.Bits.{bit_at-zero}
use Rattle.std.proofs.lemmas.Bool.{cases_lt}
use Rattle.std.proofs.lemmas.List.{get_or-set_same, get_or-set_other, append-nil, length-set}
use Rattle.std.proofs.lemmas.List.Elements.{All-nil, All-cons, All-tail, All-head, All-append}
use Rattle.std.proofs.lemmas.List.Sums.{sum_by-append}
use Rattle.hibitset_base.specs.Bits.{HasPart}
use Rattle.hibitset_base.specs.Sets.{IsLawful}
use Rattle.hibitset_base.specs.Places.{Place, places_in, places_left, bits_from}
use Rattle.hibitset_base.specs.WordsRead.{words_under, words_of, CoversWords, IsAboveMember, words_in, AreBoundByMembers}
use Rattle.hibitset_base.specs.WalkFrom.{BeginsBy, BeginsAfter, IsAheadFrom, SkipsTo, first_bit, bit_over, IsTail, AreOver, AreTails, BeginsAt}
use Rattle.hibitset_base.proofs.PlaceLemmas.{left-fill, left-none}
use Rattle.hibitset_base.proofs.LayerLemmas.{word_below}
use Rattle.hibitset_base.proofs.DescentLemmas.{words_before}
use Rattle.hibitset_base.proofs.ReadBoundLemmas.{walk_is_bound}
use Rattle.hibitset_base.proofs.WalkFromLemmas.{over, few_first, word_within}
use Rattle.hibitset_base.proofs.PlaceCutLemmas.{under_by, CutsAtPlace, standing, clear, tail_after}

-- One more word over the index is read.
module _ (w : ℕ → ℕ → ℕ) (from l tail r : ℕ) (all under : List Place) (ps qs : List Place) (so_far : SkipsTo from r all (words_under w (suc l) (from / 64 ^ suc l)) (words_of w ps)) (has : IsTail w from l tail)
    (put : qs ≡ places_in l (bits_from (64 * (from / 64 ^ (l + 1))) tail) ++ ps) (cuts : CutsAtPlace w from l tail under) where
  pub passes_more : SkipsTo from (r + 1) all under (words_of w qs)
  passes_more =
      let next : l + 1 ≡ suc l = omega arith in
      let place : Place = record { layer = l; position = from / 64 ^ (l + 1) } in
      let below : List Place = flat_map (words_under w l) (bits_from (64 * (from / 64 ^ (l + 1))) (w l (from / 64 ^ (l + 1)))) in
      let rest : List Place = flat_map (words_under w l) (bits_from (64 * (from / 64 ^ (l + 1))) tail) in
      let here : words_under w (suc l) (from / 64 ^ suc l) ≡ place ∷ below = rw next refl in
      let ahead : words_of w qs ≡ rest ++ words_of w ps = ap (words_of w) put ∙ words_before w l (bits_from (64 * (from / 64 ^ (l + 1))) tail) ps in
      let by : place.position ≤ from / 64 ^ (l + 1) = omega arith in
      record {
        passed = so_far.passed ++ (place ∷ cuts.before);
        whole = so_far.whole
            ∙ (ap (λ xs. so_far.passed ++ (xs ++ words_of w ps)) (here ∙ ap (λ xs. place ∷ xs) cuts.cut)
            ∙ (ap (λ xs. so_far.passed ++ (place ∷ xs)) (append_assoc cuts.before (under ++ rest) (words_of w ps) ∙ ap (λ xs. cuts.before ++ xs) (append_assoc under rest (words_of w ps) ∙ ap (λ xs. under ++ xs) (sym ahead)))
            ∙ sym (append_assoc so_far.passed (place ∷ cuts.before) (under ++ words_of w qs))));
        before = All-append (BeginsBy from) so_far.passed (place ∷ cuts.before) so_far.before (All-cons (BeginsBy from) place cuts.before by cuts.by);
        after = rw ahead (All-append (BeginsAfter from) rest (words_of w ps) (tail_after w from l tail has) so_far.after);
        few = let h = so_far.few in let e = length-append so_far.passed (place ∷ cuts.before) in omega (arith, h, e);
      }

-- no word is read before the first
pub passes_none : (from : ℕ) (all : List Place) → SkipsTo from 0 all all []
passes_none from all = record { passed = []; whole = sym (append-nil all); before = All-nil (BeginsBy from); after = All-nil (BeginsAfter from); few = omega arith }

-- nothing is under the place any more
pub passes_end : (from r : ℕ) (all ahead : List Place) → SkipsTo from r all [] ahead → IsAheadFrom from r all ahead
passes_end from r all ahead h = record { passed = h.passed; whole = h.whole; before = h.before; after = h.after; few = h.few }

-- from an index past all of them no word is ahead
pub all_passed : (w : ℕ → ℕ → ℕ) (n from : ℕ) → 0 < from / 64 ^ n → IsAheadFrom from 0 (words_under w n 0) []
all_passed w n from past = record { passed = words_under w n 0; whole = sym (append-nil (words_under w n 0)); before = under_by w from n 0 past; after = All-nil (BeginsAfter from); few = omega arith }

-- the tail of a zero word
zero_tail : (m c : ℕ) → c ≤ 64 → m ≡ 0 → HasPart m c 64 0
zero_tail m c few none = record { order = few; few = omega arith; same = λ j low high. bit_at-zero j ∙ sym (ap (λ x. bit_at x j) none ∙ bit_at-zero j); before = λ j lower. bit_at-zero j; after = λ j upper small. bit_at-zero j }

-- one mask more
pub tails_more : (n : ℕ) (w : ℕ → ℕ → ℕ) (from k v : ℕ) (ms : List ℕ) → k < length ms → AreTails n w from (k + 1) ms → IsTail w from k v → AreTails n w from k (set ms k v)
tails_more n w from k v ms wide so_far tail l low within = elim (eq-or-lt_of_le low) [
  | inl e ↦ subst (λ x. IsTail w from x (get_or (set ms k v) x 0)) e (rw (get_or-set_same ms k v 0 wide) tail)
  | inr above ↦ rw (get_or-set_other ms k l v 0 (omega arith)) (so_far l (omega arith) within)
]

-- the masks below it are 0 as before
pub clear_below : (k v : ℕ) (ms : List ℕ) → ((j : ℕ) → j < k + 1 → get_or ms j 0 ≡ 0) → (j : ℕ) → j < k → get_or (set ms k v) j 0 ≡ 0
clear_below k v ms none j lower = get_or-set_other ms k j v 0 (omega arith) ∙ none j (omega arith)

module _ (n : ℕ) (p : ℕ → Bool) (w : ℕ → ℕ → ℕ) (lawful : IsLawful n p w) (from : ℕ) (within : from < 64 ^ n) where
  -- under a bit that does not stand the word over the index is 0
  word_clear : (j : ℕ) → suc j < n → bit_over w from (suc j) ≡ 0 → w j (from / 64 ^ (j + 1)) ≡ 0
  word_clear j small none =
      let next : j + 1 ≡ suc j = omega arith in
      let k : ℕ = n - 2 - j in
      let q : ℕ = from / 64 ^ (suc j + 1) in
      let up : q ≡ from / 64 ^ suc j / 64 = over from (suc j) in
      let room : q < 64 ^ k = word_within n p w lawful from within (suc j) k (omega arith) in
      let h : w j (64 * q + from / 64 ^ suc j % 64) ≡ 0 = word_below n p w lawful j k q (from / 64 ^ suc j % 64) (omega arith) room (omega arith) none in
      let at : 64 * q + from / 64 ^ suc j % 64 ≡ from / 64 ^ suc j = omega (arith, up) in
      rw next (rw at at h)

  -- and so are those below it
  words_clear : (d j l : ℕ) → j + d + 1 ≡ l → l < n → bit_over w from l ≡ 0 → w j (from / 64 ^ (j + 1)) ≡ 0
  words_clear zero j l e small none = let l-is : l ≡ suc j = omega arith in word_clear j (omega arith) (rw l-is at none)
  words_clear (suc d) j l e small none =
      let above : w (suc j) (from / 64 ^ (suc j + 1)) ≡ 0 = words_clear d (suc j) l (omega arith) small none in
      word_clear j (omega arith) (ap (λ x. bit_at x (from / 64 ^ suc j % 64)) above ∙ bit_at-zero (from / 64 ^ suc j % 64))

  -- so their tails are 0, as the masks that were never set
  pub tails_stopped : (k : ℕ) (ms : List ℕ) → k < n → AreTails n w from k ms → ((j : ℕ) → j < k → get_or ms j 0 ≡ 0) → bit_over w from k ≡ 0 → AreTails n w from 0 ms
  tails_stopped k ms small tails none stopped l low inside = elim (cases_lt l k) [
    | inl lower ↦ rw (none l lower) (zero_tail (w l (from / 64 ^ (l + 1))) (first_bit from l) (few_first from l) (words_clear (k - l - 1) l k (omega arith) small stopped))
    | inr above ↦ tails l above inside
  ]

-- The masks of a walk on its way to an index: those of l layers are still to be read, and so many words were.
pub record Reaches (n : ℕ) (w : ℕ → ℕ → ℕ) (from l r : ℕ) (ms ps : List ℕ) : Type 0 where
  pub long : length ms ≡ n
  pub tails : AreTails n w from l ms
  pub none : (j : ℕ) → j < l → get_or ms j 0 ≡ 0
  pub passes : SkipsTo from r (words_under w n 0) (words_under w l (from / 64 ^ l)) (words_of w (places_left 0 ms ps))

module _ (n : ℕ) (p : ℕ → Bool) (w : ℕ → ℕ → ℕ) (lawful : IsLawful n p w) (from : ℕ) (within : from < 64 ^ n) (ps : List ℕ) (over_it : AreOver n from ps) where
  -- nothing is read
  pub reaches_none : (ms : List ℕ) → length ms ≡ n → ((j : ℕ) → j < n → get_or ms j 0 ≡ 0) → Reaches n w from n 0 ms ps
  reaches_none ms long none =
      let top : from / 64 ^ n ≡ 0 = div-eq_of_lt within in
      record {
        long = long;
        tails = λ l low inside. absurd (omega arith);
        none = none;
        passes = rw (top, left-none 0 ms ps (λ j inside. none j (omega arith))) (passes_none from (words_under w n 0));
      }

  module _ (l r v : ℕ) (ms : List ℕ) (so_far : Reaches n w from (l + 1) r ms ps) (small : l < n) (tail : IsTail w from l v) where
    -- the places that are left with one word more
    put : places_left 0 (set ms l v) ps ≡ places_in l (bits_from (64 * (from / 64 ^ (l + 1))) v) ++ places_left 0 ms ps
    put =
        let long = so_far.long in
        let wide = over_it.long in
        let filled = left-fill l v ms ps (omega arith) (omega arith) (λ j lower. so_far.none j (omega arith)) in
        rw (over_it.begins l small) at filled

    passes_one : (under : List Place) → CutsAtPlace w from l v under → SkipsTo from (r + 1) (words_under w n 0) under (words_of w (places_left 0 (set ms l v) ps))
    passes_one under cuts =
        let next : l + 1 ≡ suc l = omega arith in
        let before : SkipsTo from r (words_under w n 0) (words_under w (suc l) (from / 64 ^ suc l)) (words_of w (places_left 0 ms ps)) = rw next at so_far.passes in
        passes_more w from l v r (words_under w n 0) under (places_left 0 ms ps) (places_left 0 (set ms l v) ps) before tail put cuts

    tails_now : AreTails n w from l (set ms l v)
    tails_now = let long = so_far.long in tails_more n w from l v ms (omega arith) so_far.tails tail

    none_now : (j : ℕ) → j < l → get_or (set ms l v) j 0 ≡ 0
    none_now = clear_below l v ms so_far.none

    -- one word more is read, in which the bit over the index is set
    pub reaches_more : bit_over w from l ≡ 1 → Reaches n w from l (r + 1) (set ms l v) ps
    reaches_more stands = record {
      long = length-set ms l v ∙ so_far.long;
      tails = tails_now;
      none = none_now;
      passes = passes_one (words_under w l (from / 64 ^ l)) (standing w from l v tail stands);
    }

    -- one word more is read, in which it does not
    pub stops_at : r + 1 ≤ n → bit_over w from l ≡ 0 → BeginsAt n w from (r + 1) (set ms l v) ps
    stops_at few stopped = record {
      long = length-set ms l v ∙ so_far.long;
      tails = tails_stopped n p w lawful from within l (set ms l v) small tails_now none_now stopped;
      few = few;
      ahead = passes_end from (r + 1) (words_under w n 0) (words_of w (places_left 0 (set ms l v) ps)) (passes_one [] (clear w from l v tail stopped));
    }

  -- all words over the index are read
  pub ends_at : (r : ℕ) (ms : List ℕ) → r ≤ n → Reaches n w from 0 r ms ps → BeginsAt n w from r ms ps
  ends_at r ms few h = record { long = h.long; tails = h.tails; few = few; ahead = passes_end from r (words_under w n 0) (words_of w (places_left 0 ms ps)) h.passes }

-- The words ahead are bound as those of a whole walk.
some_passed : (from r d : ℕ) (w : ℕ → ℕ → ℕ) (rest ahead passed : List Place) → (record { layer = d; position = 0 }) ∷ rest ≡ passed ++ ahead → All (BeginsAfter from) ahead → (xs : List Place) × (rest ≡ xs ++ ahead)
some_passed from r d w rest [] [] e after = absurd (no_cons e)
  where
    no_cons : (record { layer = d; position = 0 }) ∷ rest ≡ [] → ⊥
    no_cons h = cc
some_passed from r d w rest (x ∷ ahead) [] e after =
    let first : x ≡ (record { layer = d; position = 0 }) = cc in
    let h : x.position ≡ 0 = ap (λ place. place.position) first in
    let later = All-head (BeginsAfter from) x ahead after in
    absurd (omega (arith, h, later))
some_passed from r d w rest ahead (x ∷ xs) e after = (xs, cc)

all_later : (P : Place → Type 0) (xs ys : List Place) → All P (xs ++ ys) → All P ys
all_later P [] ys all = all
all_later P (x ∷ xs) ys all = all_later P xs ys (All-tail P x (xs ++ ys) all)

each_later : {m : ℕ} (l : ℕ) (xs ys all : List Place) → all ≡ xs ++ ys → words_in l all ≤ m → words_in l ys ≤ m
each_later l xs ys all e most =
    let whole : words_in l all ≡ words_in l (xs ++ ys) = ap (words_in l) e in
    let sum : words_in l (xs ++ ys) ≡ words_in l xs + words_in l ys = sum_by-append (λ (place : Place). cond (place.layer == l) 1 0) xs ys in
    omega (arith, most, whole, sum)

pub ahead_is_bound : (d : ℕ) (p : ℕ → Bool) (a w : ℕ → ℕ → ℕ) (from r : ℕ) (ahead : List Place) → IsAheadFrom from r (words_under w (suc d) 0) ahead → CoversWords (suc d) p a w → AreBoundByMembers (suc d) p ahead
ahead_is_bound d p a w from r ahead is encloses =
    let rest : List Place = flat_map (words_under w d) (bits_from 0 (w d 0)) in
    let bound : AreBoundByMembers (suc d) p rest = walk_is_bound d p a w encloses in
    let h = some_passed from r d w rest ahead is.passed is.whole is.after in
    let over_rest : All (IsAboveMember p) (h.0 ++ ahead) = subst (λ xs. All (IsAboveMember p) xs) h.1 bound.over in
    let e = ap length h.1 in
    let f = length-append h.0 ahead in
    let few = bound.few in
    record { over = all_later (IsAboveMember p) h.0 ahead over_rest; each = λ l. each_later l h.0 ahead rest h.1 (bound.each l); few = omega (arith, e, f, few) }
