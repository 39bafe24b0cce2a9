-- What a load under a summary bit tells.
use Rattle.std.proofs.Common.{◌≡◌, ◌≢◌, ℕ, ◌+◌, ◌*◌, ◌/◌, ◌%◌, ◌<◌, sym, ap, ◌∙◌, subst, arith, slice_index}
use Rattle.std.specs.Int.{bit_at}
use Rattle.std.proofs.lemmas.Nat.Bits.{bit_at-zero}
use Rattle.atomic_table.specs.Table.{Me}
use Rattle.hibitset_atomic.specs.declared.shared.view.View.{View}
use Rattle.hibitset_atomic.specs.Lists.{Has}
use Rattle.hibitset_atomic.specs.Rule.{IsSet, HoldsOnPath, marks, LoadAt, above}
use Rattle.hibitset_atomic.proofs.MarkLemmas.{at_lit, has_marks, mark_div, mark_mod}
use Rattle.hibitset_atomic.proofs.ListLemmas.{has_left}
use Rattle.hibitset_atomic.proofs.InvariantLemmas.{no_both}
use Rattle.hibitset_atomic.specs.declared.atomic.TheConstants.{ATOMIC_MAX_EID}

module _ (p n : ℕ) (v w : Me (Unit {0}) View) (t : LoadAt p v n w) where
  pub under_nonzero : Has v.0.seen (ATOMIC_MAX_EID + p) → n ≢ 0
  under_nonzero h z = let f = t.2 in let q = f.summaries p (f.seat.seen (ATOMIC_MAX_EID + p) h) in
      no_both 0 (q.0 % 64) (bit_at-zero (q.0 % 64)) (subst (λ x. bit_at x (q.0 % 64) ≡ 1) (ap (λ (j : ℕ). slice_index f.words j) q.1 ∙ f.found ∙ z) q.2)

  pub under_seen : (b : ℕ) → b < 64 → bit_at n b ≡ 1 → Has w.0.seen (p * 64 + b)
  under_seen b lt o = subst (λ x. Has x.seen (p * 64 + b)) (sym t.1)
      (has_left (marks p n 64) v.0.seen (p * 64 + b) (has_marks p n 64 (p * 64 + b) (mark_div p b lt) (omega arith) (subst (λ r. bit_at n r ≡ 1) (sym (mark_mod p b lt)) o)))

  pub under_known : (b : ℕ) → b < 64 → Has v.0.seen (p * 64 + b) → bit_at n b ≡ 1
  under_known b lt h = let f = t.2 in subst (λ x. bit_at x b ≡ 1) f.found (at_lit f.words p b lt (f.seat.seen (p * 64 + b) h))

  at_place : (m : ℕ) → IsSet t.2.words m → m / 64 ≡ p → bit_at n (m % 64) ≡ 1
  at_place m l e = subst (λ x. bit_at x (m % 64) ≡ 1) (ap (λ (j : ℕ). slice_index t.2.words j) e ∙ t.2.found) l

  pub under_old : (i : ℕ) → i < ATOMIC_MAX_EID → IsSet v.0.old i → HoldsOnPath (λ m. m / 64 ≡ p → bit_at n (m % 64) ≡ 1) i
  under_old i lt o = let r = t.2.old_paths i lt o in (at_place i r.0, at_place (above i) r.1, at_place (above (above i)) r.2, at_place (above (above (above i))) r.3)
