-- What a step told, as its caller needs it.
use Rattle.std.proofs.Common.{◌≡◌, ◌⊎◌, inl, inr, ⊎_elim, ℕ, ◌+◌, ◌*◌, ◌/◌, ◌%◌, ◌^◌, ◌<◌, List, ◌++◌, length, sym, refl, ap, ◌∙◌, subst, arith, eqb, true, false, bit_and}
use mathlib.Core.Bool.{not, true≢false}
use mathlib.Core.Option.{none}
use Rattle.std.specs.Int.{bit_at}
use Rattle.std.specs.Int.Bits.{bit_or}
use Rattle.std.proofs.lemmas.Nat.{one_shl}
use Rattle.std.proofs.lemmas.Nat.Bits.{shr_and_one}
use Rattle.atomic_table.specs.Table.{step, Me, Allows}
use Rattle.hibitset_atomic.specs.declared.shared.view.View.{View}
use Rattle.hibitset_atomic.specs.Lists.{Has, Distinct}
use Rattle.hibitset_atomic.specs.Rule.{Gap, IsSet, above, Knows, AllReportsKnown, Invariant, marks, seeing, reporting, loading, exchanging, FetchOrLayer0At, FetchOrSummaryAt, LoadAt, IsFetchOrLayer0, IsFetchOrSummary, Grew, joined_view}
use Rattle.hibitset_atomic.proofs.OrBitLemmas.{bit_cases, sets}
use Rattle.hibitset_atomic.proofs.MarkLemmas.{has_marks, mark_of}
use Rattle.hibitset_atomic.proofs.ListLemmas.{has_left, has_right, has_split}
use Rattle.hibitset_atomic.proofs.InvariantLemmas.{enters, marks', sees_more, knows_more, no_both, seeing_fair}
use Rattle.hibitset_atomic.specs.declared.shared.layout.TheConstants.{LAYER3_START}
use Rattle.hibitset_atomic.specs.declared.atomic.TheConstants.{ATOMIC_MAX_EID}

pub test_true : (n b : ℕ) → not (eqb (bit_and (n / 2 ^ b) 1) 0) ≡ true → bit_at n b ≡ 1
test_true n b e = ⊎_elim (λ z. absurd (true≢false (sym e ∙ ap (λ (x : ℕ). not (eqb x 0)) (shr_and_one n b ∙ z)))) (λ o. o) (bit_cases n b)

pub test_false : (n b : ℕ) → not (eqb (bit_and (n / 2 ^ b) 1) 0) ≡ false → bit_at n b ≡ 0
test_false n b e = ⊎_elim (λ z. z) (λ o. absurd (true≢false (sym (ap (λ (x : ℕ). not (eqb x 0)) (shr_and_one n b ∙ o)) ∙ e))) (bit_cases n b)

-- the mask of a mark, as the code makes it
abbrev pub mask : ℕ → ℕ
mask m = 1 * 2 ^ (m % 64) % 18446744073709551616

mask_is : (m : ℕ) → mask m ≡ 2 ^ (m % 64)
mask_is m = one_shl (m % 64) 64 (omega arith)

pub enters_ : (old : List ℕ) (slots id i : ℕ) (me : Me (Unit {0}) View) → i < ATOMIC_MAX_EID → AllReportsKnown me.0 → 0 < length me.0.shares
    → Allows (Invariant old) slots id me (i / 64) (λ n. bit_or n (mask i)) (IsFetchOrLayer0 (step slots (i / 64) (mask i) 0 none) me)
enters_ old slots id i me lt settled p = subst (λ k. Allows (Invariant old) slots id me (i / 64) (λ n. bit_or n k) (IsFetchOrLayer0 (step slots (i / 64) k 0 none) me)) (sym (mask_is i))
    (enters old slots id (i / 64) (i % 64) me (omega arith) (omega arith) settled p)

pub marks_ : (old : List ℕ) (slots id c m : ℕ) (me : Me (Unit {0}) View) → m ≡ above c → c < 64 * LAYER3_START → Has me.0.seen c
    → Allows (Invariant old) slots id me (m / 64) (λ n. bit_or n (mask m)) (IsFetchOrSummary (step slots (m / 64) (mask m) 0 none) me)
marks_ old slots id c m me e lt under = subst (λ k. Allows (Invariant old) slots id me (m / 64) (λ n. bit_or n k) (IsFetchOrSummary (step slots (m / 64) k 0 none) me)) (sym (mask_is m))
    (marks' old slots id (m / 64) (m % 64) c me (omega (arith, e)) (omega arith) under (sym e ∙ sym (mark_of m)))

-- after an exchange the mark is seen
mark_seen : (m n : ℕ) (v : View) → Has (seeing (m / 64) (bit_or n (mask m)) v).seen m
mark_seen m n v = has_left (marks (m / 64) (bit_or n (mask m)) 64) v.seen m
    (has_marks (m / 64) (bit_or n (mask m)) 64 m refl (omega arith) (subst (λ k. bit_at (bit_or n k) (m % 64) ≡ 1) (sym (mask_is m)) (sets n (m % 64))))

grew_to : (p n : ℕ) (v w : Me (Unit {0}) View) (u : View) → w.1 ≡ v.1 → w.0 ≡ seeing p n u → u.old ≡ v.0.old → u.shares ≡ v.0.shares → ((m : ℕ) → Has v.0.seen m → Has u.seen m) → Grew v w
grew_to p n v w u e f o s g = (e, ap (λ (x : View). x.old) f ∙ o, ap (λ (x : View). x.shares) f ∙ s, λ m h. subst (λ x. Has x.seen m) (sym f) (sees_more p n u m (g m h)))

pub entered : (i n : ℕ) (v w : Me (Unit {0}) View) → FetchOrLayer0At (i / 64) (mask i) v n w → Grew v w × Has w.0.seen i
entered i n v w t = let q = t.1 (i % 64) (omega arith) (mask_is i) in ⊎_elim
    (λ z. let e = (q.1 z).0 in (
      grew_to (i / 64) (bit_or n (mask i)) v w (reporting (i / 64 * 64 + i % 64) (exchanging v.0)) t.0 e refl refl (λ m h. h),
      subst (λ x. Has x.seen i) (sym e) (mark_seen i n (reporting (i / 64 * 64 + i % 64) (exchanging v.0))),
    ))
    (λ o. let e = q.0 o in (grew_to (i / 64) (bit_or n (mask i)) v w (exchanging v.0) t.0 e refl refl (λ m h. h), subst (λ x. Has x.seen i) (sym e) (mark_seen i n (exchanging v.0))))
    (bit_cases n (i % 64))

pub marked : (m n : ℕ) (v w : Me (Unit {0}) View) → FetchOrSummaryAt (m / 64) (mask m) v n w → Grew v w × (w.0.reports ≡ v.0.reports) × Has w.0.seen m
marked m n v w t = (grew_to (m / 64) (bit_or n (mask m)) v w (exchanging v.0) t.0 t.1 refl refl (λ x h. h), ap (λ (x : View). x.reports) t.1, subst (λ x. Has x.seen m) (sym t.1) (mark_seen m n (exchanging v.0)))

pub looked : (p n : ℕ) (v w : Me (Unit {0}) View) → LoadAt p v n w → Grew v w × (w.0.reports ≡ v.0.reports)
looked p n v w t = (grew_to p n v w (loading v.0) t.0 t.1 refl refl (λ x h. h), ap (λ (x : View). x.reports) t.1)

-- a load tells a seat that its reports are each once
pub looked_once : (p n : ℕ) (v w : Me (Unit {0}) View) → LoadAt p v n w → Distinct w.0.reports
looked_once p n v w t = subst (λ (x : View). Distinct x.reports) (sym t.1) t.2.seat.reports.once

pub looked_honest : (p n : ℕ) (v w : Me (Unit {0}) View) → LoadAt p v n w → (i : ℕ) → Has w.0.reports i → ¬ IsSet w.0.old i
looked_honest p n v w t i h = subst (λ (x : View). ¬ IsSet x.old i) (sym t.1) (t.2.seat.reports.new i (subst (λ (x : View). Has x.reports i) t.1 h))

pub look_stands : (m n : ℕ) (v w : Me (Unit {0}) View) → LoadAt (m / 64) v n w → bit_at n (m % 64) ≡ 1 → Has w.0.seen m
look_stands m n v w t o = subst (λ x. Has x.seen m) (sym t.1) (has_left (marks (m / 64) n 64) v.0.seen m (has_marks (m / 64) n 64 m refl (omega arith) o))

-- how many loads and exchanges a step makes: one
pub looked_counts : (p n : ℕ) (v w : Me (Unit {0}) View) → LoadAt p v n w → (w.0.loads ≡ v.0.loads + 1) × (w.0.exchanges ≡ v.0.exchanges)
looked_counts p n v w t = (ap (λ (x : View). x.loads) t.1, ap (λ (x : View). x.exchanges) t.1)

pub marked_counts : (m n : ℕ) (v w : Me (Unit {0}) View) → FetchOrSummaryAt (m / 64) (mask m) v n w → (w.0.loads ≡ v.0.loads) × (w.0.exchanges ≡ v.0.exchanges + 1)
marked_counts m n v w t = (ap (λ (x : View). x.loads) t.1, ap (λ (x : View). x.exchanges) t.1)

pub entered_counts : (i n : ℕ) (v w : Me (Unit {0}) View) → FetchOrLayer0At (i / 64) (mask i) v n w → (w.0.loads ≡ v.0.loads) × (w.0.exchanges ≡ v.0.exchanges + 1)
entered_counts i n v w t = let q = t.1 (i % 64) (omega arith) (mask_is i) in ⊎_elim
    (λ z. let e = (q.1 z).0 in (ap (λ (x : View). x.loads) e, ap (λ (x : View). x.exchanges) e))
    (λ o. let e = q.0 o in (ap (λ (x : View). x.loads) e, ap (λ (x : View). x.exchanges) e))
    (bit_cases n (i % 64))

-- after a join and a load
module _ (p n : ℕ) (a b : View) (l : List (ℕ × Unit {0})) (v w : Me (Unit {0}) View) (t : LoadAt p v n w) (e : v ≡ (joined_view a b, l)) (sa : AllReportsKnown a) (sb : AllReportsKnown b) where
  united : w.0 ≡ seeing p n (loading (joined_view a b))
  united = t.1 ∙ ap (λ (m : Me (Unit {0}) View). seeing p n (loading m.0)) e

  pub united_parts : (w.1 ≡ l) × (w.0.old ≡ a.old) × (w.0.shares ≡ a.shares ++ b.shares) × (w.0.reports ≡ a.reports ++ b.reports)
  united_parts = (t.0 ∙ ap (λ (m : Me (Unit {0}) View). m.1) e, ap (λ (x : View). x.old) united, ap (λ (x : View). x.shares) united, ap (λ (x : View). x.reports) united)

  pub united_counts : (w.0.loads ≡ a.loads + b.loads + 1) × (w.0.exchanges ≡ a.exchanges + b.exchanges)
  united_counts = (ap (λ (x : View). x.loads) united, ap (λ (x : View). x.exchanges) united)

  pub united_knows : (i : ℕ) → Knows a i ⊎ Knows b i → Knows w.0 i
  united_knows i k = subst (λ x. Knows x i) (sym united) (knows_more (joined_view a b) (seeing p n (joined_view a b)) (sees_more p n (joined_view a b)) i
      (⊎_elim (λ x. knows_more a (joined_view a b) (λ m h. has_left a.seen b.seen m h) i x) (λ y. knows_more b (joined_view a b) (λ m h. has_right a.seen b.seen m h) i y) k))

  pub united_settled : AllReportsKnown w.0
  united_settled i h = united_knows i (⊎_elim (λ x. inl (sa i x)) (λ y. inr (sb i y)) (has_split a.reports b.reports i (subst (λ rs. Has rs i) united_parts.3 h)))

-- where the bit of the mark was clear, the mark is not among what the seat has seen then
pub look_gap : (m n : ℕ) (v w : Me (Unit {0}) View) → LoadAt (m / 64) v n w → bit_at n (m % 64) ≡ 0 → Gap w.0 m
look_gap m n v w t z = let f = t.2 in
    subst (λ x. Gap x m) (sym t.1)
    (f.words, (λ h. no_both n (m % 64) z (subst (λ x. bit_at x (m % 64) ≡ 1) f.found h)), (seeing_fair v.0.old f.words (m / 64) n v.0.loads v.0.exchanges v.0 f.found f.seat).seen, f.old_paths)
