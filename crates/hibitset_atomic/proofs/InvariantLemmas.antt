-- Each step keeps the rule.
use Rattle.std.proofs.Common.{◌≡◌, ◌⊎◌, inl, inr, ⊎_elim, ℕ, ◌+◌, ◌*◌, ◌^◌, ◌<◌, List, [], ◌∷◌, ◌++◌, length, set, slice_index, sym, refl, ap, ◌∙◌, subst, arith}
use native.Mathlib.Decide.{ℕ_discrete}
use mathlib.Core.Logic.{dite}
use mathlib.Core.Option.{some, some-injective, none}
use lib.ListN.{get_elem?}
use Rattle.std.specs.Int.{bit_at}
use Rattle.std.specs.Int.Bits.{bit_or}
use Rattle.std.proofs.lemmas.List.{length-set, get_or-set_same, set-get_or}
use Rattle.std.proofs.lemmas.Nat.Bits.{bit_at-pow_same, bit_at-pow_other}
use Rattle.atomic_table.proofs.Lists.{set_here, set_else}
use Rattle.atomic_table.specs.Table.{State, step, Me, Allows, keeps, opening}
use Rattle.hibitset_atomic.specs.declared.shared.view.View.{View}
use Rattle.hibitset_atomic.specs.Lists.{Has, Apart}
use Rattle.hibitset_atomic.specs.Rule.{IsSet, Sees, Shares, above, HoldsOnPath, Knows, Nonzero, Reported, AllReportsKnown, SeatInvariant, AreDisjointSeats, SummariesOverNonzero, OldPathsSet, Invariant, marks, seeing, reporting, counting, loading, exchanging, IsFetchOrLayer0, IsFetchOrSummary, IsLoad, opening_view}
use Rattle.hibitset_atomic.proofs.OrBitLemmas.{bit_cases}
use Rattle.hibitset_atomic.proofs.MarkLemmas.{with_bit, exchanged, lit_grows, lit_new, lit_was, lit_at, at_lit, marks_stand}
use Rattle.hibitset_atomic.proofs.ListLemmas.{has_right, has_split, full, below_less, below_distinct}
use Rattle.hibitset_atomic.proofs.ViewLemmas.{each_set, each_map, pairs_set, within, only}
use Rattle.hibitset_atomic.specs.declared.shared.layout.TheConstants.{SHARES, LAYER1_START, ROW_WORDS}
use Rattle.hibitset_atomic.specs.declared.atomic.TheConstants.{ATOMIC_MAX_EID}

pub no_both : (n b : ℕ) → bit_at n b ≡ 0 → bit_at n b ≡ 1 → ⊥
no_both n b clear on = let e : ◌≡◌ {A = ℕ} 0 1 = sym clear ∙ on in absurd (omega (arith, e))

-- ---- more marks are set
abbrev Grows : List ℕ → List ℕ → Type 0
Grows ws xs = (m : ℕ) → IsSet ws m → IsSet xs m

whole_map : (P Q : ℕ → Type 0) (i : ℕ) → ((m : ℕ) → P m → Q m) → HoldsOnPath P i → HoldsOnPath Q i
whole_map P Q i f w = (f i w.0, f (above i) w.1, f (above (above i)) w.2, f (above (above (above i))) w.3)

grown : (old ws xs : List ℕ) → Grows ws xs → (v : View) → SeatInvariant old ws v → SeatInvariant old xs v
grown old ws xs g v f = record {
  reports = record { set = λ i h. g i (f.reports.set i h); new = f.reports.new; below = f.reports.below; once = f.reports.once };
  seen = λ m h. g m (f.seen m h);
  unfinished = f.unfinished;
  shares = f.shares;
  empty = f.empty;
  old_words = f.old_words;
}

-- ---- one seat sees more
pub knows_more : (v w : View) → ((m : ℕ) → Has v.seen m → Has w.seen m) → (i : ℕ) → Knows v i → Knows w i
knows_more v w f i k = whole_map (Has v.seen) (Has w.seen) i f k

pub sees_more : (p n : ℕ) (v : View) (m : ℕ) → Has v.seen m → Has (marks p n 64 ++ v.seen) m
sees_more p n v m h = has_right (marks p n 64) v.seen m h

pub seeing_fair : (old ws : List ℕ) (p n loads exchanges : ℕ) (v : View) → slice_index ws p ≡ n → SeatInvariant old ws v → SeatInvariant old ws (seeing p n (counting loads exchanges v))
seeing_fair old ws p n loads exchanges v e f = record {
  reports = f.reports;
  seen = λ m h. ⊎_elim (λ a. let t = marks_stand p n 64 m (omega arith) a in rw (t.0, e) t.1) (λ b. f.seen m b) (has_split (marks p n 64) v.seen m h);
  unfinished = let still = knows_more v (seeing p n v) (sees_more p n v) in λ i j hi hj ni nj. f.unfinished i j hi hj (λ k. ni (still i k)) (λ k. nj (still j k));
  shares = f.shares;
  empty = f.empty;
  old_words = f.old_words;
}

pub separate_sym : (v w : View) → AreDisjointSeats v w → AreDisjointSeats w v
separate_sym v w s = (λ x h k. s.0 x k h, λ x h k. s.1 x k h)

-- a view with no report, whatever it counts
pub fresh_fair : (old words : List ℕ) (v : View) → Sees words v → Shares v.shares → (0 < length v.shares → v.old ≡ old)
    → SeatInvariant old words record { old = v.old; shares = v.shares; reports = []; seen = v.seen; loads = v.loads; exchanges = v.exchanges }
fresh_fair old words v seen shares old_words = record {
  reports = record { set = λ i k. absurd k; new = λ i k. absurd k; below = λ i k. absurd k; once = tt };
  seen = seen;
  unfinished = λ i j hi hj ni nj. absurd hi;
  shares = shares;
  empty = λ _. refl;
  old_words = old_words;
}

-- ---- what was reported

-- by the seat that has this view
pub reported_here : (views : List View) (id b : ℕ) (v : View) → get_elem? views id ≡ some v → (r : Reported views b) → r.0 ≡ id → Has v.reports b
reported_here views id b v e r same = subst (λ u. Has u.reports b) (some-injective r.1 v (sym r.2 ∙ ap (get_elem? views) same ∙ e)) r.3

-- It still is where one seat's view changes and keeps its reports.
pub reported_set : (views : List View) (id b : ℕ) (v w : View) → get_elem? views id ≡ some v → (Has v.reports b → Has w.reports b) → Reported views b → Reported (set views id w) b
reported_set views id b v w e f r = dite (ℕ_discrete r.0 id)
    (λ same. (id, w, set_here views id w (within views id v e), f (reported_here views id b v e r same)))
    (λ ne. (r.0, r.1, set_else views id r.0 w ne ∙ r.2, r.3))

-- ---- a step of one seat

-- the state with these words, and this view in the place of the seat's
abbrev pub moved : State (Unit {0}) View → List ℕ → ℕ → View → State (Unit {0}) View
moved s words id view = record { words = words; homes = s.homes; views = set s.views id view }

module _ (old : List ℕ) (id : ℕ) (v : View) (s : State (Unit {0}) View) (rule : Invariant old s) (e : get_elem? s.views id ≡ some v) where
  seat : SeatInvariant old s.words v
  seat = rule.seats id v e

  pub apart_from : (j : ℕ) (u : View) → ¬ (j ≡ id) → get_elem? s.views j ≡ some u → AreDisjointSeats v u
  apart_from j u ne eu = rule.disjoint id j v u e eu (λ z. ne (sym z))

  -- Marks are set, the new ones below `ATOMIC_MAX_EID` are reported, and no report is lost.
  pub moves : (xs : List ℕ) (w : View) → Grows s.words xs → length xs ≡ ROW_WORDS → SummariesOverNonzero xs → ((i : ℕ) → Has v.reports i → Has w.reports i)
      → ((i : ℕ) → i < ATOMIC_MAX_EID → IsSet xs i → IsSet s.words i ⊎ Has w.reports i) → SeatInvariant old xs w
      → ((j : ℕ) (u : View) → ¬ (j ≡ id) → get_elem? s.views j ≡ some u → AreDisjointSeats w u) → Invariant old (moved s xs id w)
  moves xs w g size summaries kept told fair disjoint = record {
    size = size;
    layer0 = record {
      old_set = λ i o. g i (rule.layer0.old_set i o);
      told = λ i lt k. ⊎_elim
          (λ was. ⊎_elim (λ o. inl o) (λ r. inr (reported_set s.views id i v w e (kept i) r)) (rule.layer0.told i lt was))
          (λ r. inr (id, w, set_here s.views id w (within s.views id v e), r))
          (told i lt k);
    };
    seats = each_set (SeatInvariant old xs) s.views id w (each_map (SeatInvariant old s.words) (SeatInvariant old xs) s.views (grown old s.words xs g) rule.seats) fair;
    disjoint = pairs_set AreDisjointSeats separate_sym s.views id w rule.disjoint disjoint;
    old_paths = λ i lt o. whole_map (IsSet s.words) (IsSet xs) i g (rule.old_paths i lt o);
    summaries = summaries;
  }

  -- The seat sees the word p, and reports nothing.
  sees : (xs : List ℕ) (p n loads exchanges : ℕ) → Grows s.words xs → length xs ≡ ROW_WORDS → SummariesOverNonzero xs
      → ((i : ℕ) → i < ATOMIC_MAX_EID → IsSet xs i → IsSet s.words i) → slice_index xs p ≡ n → Invariant old (moved s xs id (seeing p n (counting loads exchanges v)))
  sees xs p n loads exchanges g size summaries none_new here = moves xs (seeing p n (counting loads exchanges v)) g size summaries (λ i k. k)
      (λ i lt k. inl (none_new i lt k)) (seeing_fair old xs p n loads exchanges v here (grown old s.words xs g v seat)) apart_from

  -- an exchange that sets the bit b of the word p
  module _ (p b : ℕ) (inside : p < length s.words) (lb : b < 64) where
    abbrev now : List ℕ
    now = exchanged s.words p b

    abbrev found : ℕ
    found = with_bit s.words p b

    abbrev bit_was : ℕ
    bit_was = bit_at (slice_index s.words p) b

    grows : Grows s.words now
    grows = lit_grows s.words p b inside lb

    size_now : length now ≡ ROW_WORDS
    size_now = length-set s.words p found ∙ rule.size

    found_now : slice_index now p ≡ found
    found_now = get_or-set_same s.words p found 0 inside

    summaries_now : ((q : ℕ) → ATOMIC_MAX_EID + q ≡ p * 64 + b → Nonzero now q) → SummariesOverNonzero now
    summaries_now new q k = ⊎_elim (λ was. let n = rule.summaries q was in (n.0, n.1, grows n.0 n.2)) (λ is. new q is) (lit_was s.words p b inside lb (ATOMIC_MAX_EID + q) k)

    sees_now : SummariesOverNonzero now → (p * 64 + b < ATOMIC_MAX_EID → bit_was ≡ 1) → Invariant old (moved s now id (seeing p found (exchanging v)))
    sees_now summaries was_set = sees now p found v.loads (v.exchanges + 1) grows size_now summaries
        (λ i lt k. ⊎_elim (λ was. was) (λ q. subst (IsSet s.words) (sym q) (lit_at s.words p b lb (was_set (omega (arith, lt, q))))) (lit_was s.words p b inside lb i k))
        found_now

    -- at layer 0
    module _ (low : p < LAYER1_START) where
      low_summaries : SummariesOverNonzero now
      low_summaries = summaries_now (λ q eq. absurd (omega (arith, eq)))

      -- where the bit was clear
      module _ (clear : bit_was ≡ 0) where
        not_set : ¬ IsSet s.words (p * 64 + b)
        not_set k = no_both (slice_index s.words p) b clear (at_lit s.words p b lb k)

        -- the index is new to each seat
        unreported : (j : ℕ) (u : View) → get_elem? s.views j ≡ some u → ¬ Has u.reports (p * 64 + b)
        unreported j u eu k = not_set ((rule.seats j u eu).reports.set (p * 64 + b) k)

        not_old : ¬ IsSet old (p * 64 + b)
        not_old o = not_set (rule.layer0.old_set (p * 64 + b) o)

        unseen : ¬ Has v.seen (p * 64 + b)
        unseen k = not_set (seat.seen (p * 64 + b) k)

        reporting_fair : AllReportsKnown v → 0 < length v.shares → SeatInvariant old now (reporting (p * 64 + b) v)
        reporting_fair settled some_share = let f = grown old s.words now grows v seat in record {
          reports = record {
            set = λ i k. ⊎_elim (λ (q : i ≡ p * 64 + b). subst (IsSet now) (sym q) (lit_new s.words p b inside lb)) (λ k'. f.reports.set i k') k;
            new = λ i k. ⊎_elim (λ (q : i ≡ p * 64 + b). λ o. not_old (subst (IsSet old) q o)) (λ k'. f.reports.new i k') k;
            below = λ i k. ⊎_elim (λ (q : i ≡ p * 64 + b). omega (arith, q)) (λ k'. f.reports.below i k') k;
            once = (unreported id v e, f.reports.once);
          };
          seen = f.seen;
          unfinished = λ i j hi hj ni nj. ⊎_elim (λ (q : i ≡ p * 64 + b). ⊎_elim (λ (r : j ≡ p * 64 + b). q ∙ sym r) (λ k. absurd (nj (settled j k))) hj) (λ k. absurd (ni (settled i k))) hi;
          shares = f.shares;
          empty = λ l. absurd (omega arith);
          old_words = f.old_words;
        }

        reports_now : AllReportsKnown v → 0 < length v.shares → Invariant old (moved s now id (seeing p found (reporting (p * 64 + b) (exchanging v))))
        reports_now settled some_share = moves now (seeing p found (reporting (p * 64 + b) (exchanging v))) grows size_now low_summaries (λ i k. inr k)
            (λ i lt k. ⊎_elim (λ was. inl was) (λ q. inr (inl q)) (lit_was s.words p b inside lb i k))
            (seeing_fair old now p found v.loads (v.exchanges + 1) (reporting (p * 64 + b) v) found_now (reporting_fair settled some_share))
            (λ j u ne eu. let q = apart_from j u ne eu in
            (λ x k k'. ⊎_elim (λ (r : x ≡ p * 64 + b). unreported j u eu (subst (Has u.reports) r k')) (λ k''. q.0 x k'' k') k, q.1))

pub looks : (old : List ℕ) (slots id p : ℕ) (me : Me (Unit {0}) View) → 0 < length me.0.shares → Allows (Invariant old) slots id me p (λ n. n) (IsLoad (step slots p 0 0 none) me)
looks old slots id p me some_share s h ls e lt =
    let n : ℕ = slice_index s.words p in
    let f = h.seats id me.0 e in
    let same : me.0.old ≡ old = f.old_words some_share in (
      seeing p n (loading me.0),
      keeps,
      tt,
      subst (λ xs. Invariant old (moved s xs id (seeing p n (loading me.0)))) (sym (set-get_or s.words p 0))
          (sees old id me.0 s h e s.words p n (me.0.loads + 1) me.0.exchanges (λ m k. k) h.size h.summaries (λ i l k. k) refl),
      (refl, refl, record { words = s.words; found = refl; seat = subst (λ o. SeatInvariant o s.words me.0) (sym same) f; old_paths = rw same h.old_paths; summaries = h.summaries }),
    )

-- an exchange above layer 0
pub marks' : (old : List ℕ) (slots id p b c : ℕ) (me : Me (Unit {0}) View) → p < ROW_WORDS → b < 64 → Has me.0.seen c → above c ≡ p * 64 + b
    → Allows (Invariant old) slots id me p (λ n. bit_or n (2 ^ b)) (IsFetchOrSummary (step slots p (2 ^ b) 0 none) me)
marks' old slots id p b c me lp lb under up s h ls e lt =
    let inside : p < length s.words = subst (λ l. p < l) (sym h.size) lp in (
      seeing p (with_bit s.words p b) (exchanging me.0),
      keeps,
      tt,
      sees_now old id me.0 s h e p b inside lb
          (summaries_now old id me.0 s h e p b inside lb (λ q eq. (c, (omega (arith, up, eq)), lit_grows s.words p b inside lb c ((h.seats id me.0 e).seen c under))))
          (λ low. absurd (omega (arith, up, low))),
      (refl, refl),
    )

-- the exchange at layer 0
same_bit : (b c : ℕ) → 2 ^ b ≡ 2 ^ c → c ≡ b
same_bit b c e = dite (ℕ_discrete c b) (λ q. q) (λ ne. absurd (no_both (2 ^ b) c (bit_at-pow_other b c ne) (ap (λ (m : ℕ). bit_at m c) e ∙ bit_at-pow_same c)))

pub enters : (old : List ℕ) (slots id p b : ℕ) (me : Me (Unit {0}) View) → p < LAYER1_START → b < 64 → AllReportsKnown me.0 → 0 < length me.0.shares
    → Allows (Invariant old) slots id me p (λ n. bit_or n (2 ^ b)) (IsFetchOrLayer0 (step slots p (2 ^ b) 0 none) me)
enters old slots id p b me lp lb settled some_share s h ls e lt =
    let n : ℕ = slice_index s.words p in
    let inside : p < length s.words = (let l = h.size in omega (arith, l)) in
    ⊎_elim
    (λ clear. (
      seeing p (with_bit s.words p b) (reporting (p * 64 + b) (exchanging me.0)),
      keeps,
      tt,
      reports_now old id me.0 s h e p b inside lb lp clear settled some_share,
      (
        refl,
        λ c lc q. rw (same_bit b c q) (
          λ was_set. absurd (no_both n b clear was_set),
          λ _. (refl, rw ((h.seats id me.0 e).old_words some_share) (not_old old id me.0 s h e p b inside lb lp clear), unseen old id me.0 s h e p b inside lb lp clear),
        ),
      ),
    ))
    (λ was_set. (
      seeing p (with_bit s.words p b) (exchanging me.0),
      keeps,
      tt,
      sees_now old id me.0 s h e p b inside lb (low_summaries old id me.0 s h e p b inside lb lp) (λ _. was_set),
      (refl, λ c lc q. rw (same_bit b c q) (λ _. refl, λ clear. absurd (no_both n b clear was_set))),
    ))
    (bit_cases n b)

-- ---- the beginning
pub opens : (old ws first : List ℕ) → old ≡ first → ws ≡ first → length first ≡ ROW_WORDS → OldPathsSet first first → SummariesOverNonzero first → Invariant old (opening ws [] (opening_view old))
opens old ws first e f size old_paths summaries = rw (e, f) (record {
  size = size;
  layer0 = record { old_set = λ i o. o; told = λ i l o. inl o };
  seats = λ id v there. subst (SeatInvariant first first) (only (opening_view first) v id there).1
      (fresh_fair first first (opening_view first) (λ m k. absurd k) (record { below = below_less SHARES; once = below_distinct SHARES }) (λ _. refl));
  disjoint = λ i j v w ev ew ne. absurd (ne ((only (opening_view first) v i ev).0 ∙ sym (only (opening_view first) w j ew).0));
  old_paths = old_paths;
  summaries = summaries;
})

-- ---- the end
shareless : (ys xs : List ℕ) → ((x : ℕ) → x < SHARES → Has ys x) → Apart ys xs → ((x : ℕ) → Has xs x → x < SHARES) → length xs ≡ 0
shareless ys [] all a b = refl
shareless ys (x ∷ xs) all a b = absurd (a x (all x (b x (inl refl))) (inl refl))

-- with all shares, layer 0 has the old indices and the seat's reports
pub whole : (old : List ℕ) (s : State (Unit {0}) View) (id : ℕ) (v : View) → Invariant old s → get_elem? s.views id ≡ some v → length v.shares ≡ SHARES
    → (i : ℕ) → i < ATOMIC_MAX_EID → IsSet s.words i → IsSet old i ⊎ Has v.reports i
whole old s id v h e all i lt k = ⊎_elim (λ o. inl o)
    (λ r. dite (ℕ_discrete r.0 id)
    (λ same. inr (reported_here s.views id i v e r same))
    (λ ne. let f = h.seats r.0 r.1 r.2 in let g = h.seats id v e in
    let none_left = shareless v.shares r.1.shares (full SHARES v.shares g.shares.once g.shares.below all) (h.disjoint id r.0 v r.1 e r.2 (λ z. ne (sym z))).1 f.shares.below in
    absurd (subst (λ l. Has l i) (f.empty none_left) r.3)))
    (h.layer0.told i lt k)
