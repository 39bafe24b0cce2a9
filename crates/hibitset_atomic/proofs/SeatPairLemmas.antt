-- A seat that is cut in two, and two that become one, keep the rule.
use Rattle.std.proofs.Common.{◌≡◌, inl, inr, ⊎_elim, ℕ, ◌+◌, ◌<◌, ◌≤◌, List, [], ◌∷◌, ◌++◌, length, set, sym, ◌∙◌, subst, arith}
use native.Mathlib.Decide.{ℕ_discrete}
use mathlib.Core.Logic.{dite}
use mathlib.Core.Option.{some}
use lib.ListN.{get_elem?}
use Rattle.std.proofs.lemmas.List.{length-drop, length-append, set_comm}
use Rattle.atomic_table.proofs.Lists.{set_here, set_else, at_longer, at_set}
use Rattle.atomic_table.specs.Table.{State, Me, Splits, Joins}
use Rattle.hibitset_atomic.specs.declared.shared.view.View.{View}
use Rattle.hibitset_atomic.specs.Lists.{Has, Apart}
use Rattle.hibitset_atomic.specs.Rule.{Reported, AllReportsKnown, SeatInvariant, AreDisjointSeats, Invariant, LoadAt, empty_view, half, first_half, second_half, joined_view}
use Rattle.hibitset_atomic.proofs.ListLemmas.{has_left, has_right, has_split, distinct_append, distinct_parts, fits, take_drop, has_take, has_drop}
use Rattle.hibitset_atomic.proofs.ViewLemmas.{each_set, each_snoc, pairs_set, pairs_snoc, within}
use Rattle.hibitset_atomic.proofs.InvariantLemmas.{knows_more, separate_sym, fresh_fair, reported_here, reported_set, moved, moves, apart_from}
use Rattle.hibitset_atomic.specs.declared.shared.layout.TheConstants.{SHARES}

-- ---- a seat is cut in two

-- what was reported still is where a view comes
reported_snoc : (views : List View) (w : View) (b : ℕ) → Reported views b → Reported (views ++ w ∷ []) b
reported_snoc views w b r = (r.0, r.1, at_longer views (w ∷ []) r.0 r.1 r.2, r.3)

pub splits : (old : List ℕ) (id : ℕ) (v : View) → 0 < length v.shares → Splits (Invariant old) id v (first_half v) (second_half v)
splits old id v some_share s h e =
    let f = h.seats id v e in
    let cut = take_drop (half v) v.shares f.shares.once in
    let halved : List View = set s.views id (first_half v) in
    let one : Invariant old (moved s s.words id (first_half v)) = moves old id v s h e s.words (first_half v) (λ m k. k) h.size h.summaries (λ i k. k) (λ i lt k. inl k)
    (record {
      reports = f.reports;
      seen = f.seen;
      unfinished = f.unfinished;
      shares = record { below = λ x k. f.shares.below x (has_drop (half v) v.shares x k); once = cut.0 };
      empty = λ z. let l = length-drop (half v) v.shares in absurd (omega (arith, l, z));
      old_words = λ _. f.old_words some_share;
    })
    (λ j u ne eu. let q = apart_from old id v s h e j u ne eu in (q.0, λ x k k'. q.1 x (has_drop (half v) v.shares x k) k')) in record {
      size = h.size;
      layer0 = record { old_set = h.layer0.old_set; told = λ b l k. ⊎_elim (λ o. inl o) (λ r. inr (reported_snoc halved (second_half v) b r)) (one.layer0.told b l k) };
      seats = each_snoc (SeatInvariant old s.words) halved (second_half v) one.seats
          (fresh_fair old s.words (second_half v) f.seen (record { below = λ x k. f.shares.below x (has_take (half v) v.shares x k); once = cut.1 }) (λ _. f.old_words some_share));
      disjoint = pairs_snoc AreDisjointSeats separate_sym halved (second_half v) one.disjoint (λ j u eu. (
        λ x k k'. k,
        ⊎_elim
            (λ t. λ x k k'. cut.2 x (subst (λ y. Has y.shares x) (sym t.1) k') k)
            (λ t. let q = apart_from old id v s h e j u t.0 t.1 in λ x k k'. q.1 x (has_take (half v) v.shares x k) k')
            (at_set s.views id j (first_half v) u eu),
      ));
      old_paths = h.old_paths;
      summaries = h.summaries;
    }

-- ---- two seats become one
module _ (old : List ℕ) (id : ℕ) (v : View) (other : ℕ) (w : View) (some_share : 0 < length v.shares) (sv : AllReportsKnown v) (sw : AllReportsKnown w) (s : State (Unit {0}) View) (h : Invariant old s)
    (e : get_elem? s.views id ≡ some v) (ne : ¬ (other ≡ id)) (ew : get_elem? s.views other ≡ some w) where
  abbrev both : View
  both = joined_view v w

  abbrev emptied : List View
  emptied = set s.views other empty_view

  -- The joined seat knows all that it has reported.
  both_known : AllReportsKnown both
  both_known i k = ⊎_elim
      (λ l. knows_more v both (λ m k. has_left v.seen w.seen m k) i (sv i l))
      (λ r. knows_more w both (λ m k. has_right v.seen w.seen m k) i (sw i r))
      (has_split v.reports w.reports i k)

  both_fair : SeatInvariant old s.words both
  both_fair = let f = h.seats id v e in let g = h.seats other w ew in let q = h.disjoint id other v w e ew (λ z. ne (sym z)) in record {
    reports = record {
      set = λ i k. ⊎_elim (λ l. f.reports.set i l) (λ r. g.reports.set i r) (has_split v.reports w.reports i k);
      new = λ i k. ⊎_elim (λ l. f.reports.new i l) (λ r. g.reports.new i r) (has_split v.reports w.reports i k);
      below = λ i k. ⊎_elim (λ l. f.reports.below i l) (λ r. g.reports.below i r) (has_split v.reports w.reports i k);
      once = distinct_append v.reports w.reports f.reports.once g.reports.once q.0;
    };
    seen = λ m k. ⊎_elim (λ l. f.seen m l) (λ r. g.seen m r) (has_split v.seen w.seen m k);
    unfinished = λ i j hi hj ni nj. absurd (ni (both_known i hi));
    shares = record {
      below = λ x k. ⊎_elim (λ l. f.shares.below x l) (λ r. g.shares.below x r) (has_split v.shares w.shares x k);
      once = distinct_append v.shares w.shares f.shares.once g.shares.once q.1;
    };
    empty = λ z. let l = length-append v.shares w.shares in absurd (omega (arith, l, z));
    old_words = λ _. f.old_words some_share;
  }

  still_there : get_elem? emptied id ≡ some v
  still_there = set_else s.views other id empty_view (λ z. ne (sym z)) ∙ e

  joined : Invariant old record { words = s.words; homes = s.homes; views = set emptied id both }
  joined = record {
    size = h.size;
    layer0 = record {
      old_set = h.layer0.old_set;
      told = λ b l k. ⊎_elim (λ o. inl o)
          (λ r. inr (dite (ℕ_discrete r.0 other)
          (λ same. (id, both, set_here emptied id both (within emptied id v still_there), has_right v.reports w.reports b (reported_here s.views other b w ew r same)))
          (λ differs. reported_set emptied id b v both still_there (λ q. has_left v.reports w.reports b q) (r.0, r.1, set_else s.views other r.0 empty_view differs ∙ r.2, r.3))))
          (h.layer0.told b l k);
    };
    seats = each_set (SeatInvariant old s.words) emptied id both (each_set (SeatInvariant old s.words) s.views other empty_view h.seats
        (fresh_fair old s.words empty_view (λ m k. absurd k) (record { below = λ x k. absurd k; once = tt }) (λ z. absurd (omega arith)))) both_fair;
    disjoint = pairs_set AreDisjointSeats separate_sym emptied id both
        (pairs_set AreDisjointSeats separate_sym s.views other empty_view h.disjoint (λ j u d eu. (λ x k k'. k, λ x k k'. k)))
        (λ j u d eu. ⊎_elim
        (λ t. (subst (λ y. Apart (v.reports ++ w.reports) y.reports) t.1 (λ x k k'. k'), subst (λ y. Apart (v.shares ++ w.shares) y.shares) t.1 (λ x k k'. k')))
        (λ t. let q = h.disjoint id j v u e t.1 (λ z. d (sym z)) in let r = h.disjoint other j w u ew t.1 (λ z. t.0 (sym z)) in
        (λ x k k'. ⊎_elim (λ l. q.0 x l k') (λ m. r.0 x m k') (has_split v.reports w.reports x k), λ x k k'. ⊎_elim (λ l. q.1 x l k') (λ m. r.1 x m k') (has_split v.shares w.shares x k)))
        (at_set s.views other j empty_view u eu));
    old_paths = h.old_paths;
    summaries = h.summaries;
  }

pub joins : (old : List ℕ) (id : ℕ) (v : View) (other : ℕ) (w : View) → 0 < length v.shares → AllReportsKnown v → AllReportsKnown w → Joins (Invariant old) id v other w (joined_view v w) empty_view
joins old id v other w p sv sw s h e ne ew = subst (λ vs. Invariant old record { words = s.words; homes = s.homes; views = vs })
    (set_comm s.views other id empty_view (joined_view v w) ne)
    (joined old id v other w p sv sw s h e ne (sym (set_else s.views id other (joined_view v w) ne) ∙ ew))

pub both_fit : (p n : ℕ) (a b : View) (v w : Me (Unit {0}) View) → LoadAt p v n w → v.0 ≡ joined_view a b → Apart a.reports b.reports × (length a.shares + length b.shares ≤ SHARES)
both_fit p n a b v w t e =
    let f = subst (SeatInvariant v.0.old t.2.words) e t.2.seat in
    let few = fits SHARES (a.shares ++ b.shares) f.shares.once f.shares.below in
    let l = length-append a.shares b.shares in
    ((distinct_parts a.reports b.reports f.reports.once).2, omega (arith, few, l))
