-- Marks: the bits of all words in one row.
use Rattle.std.proofs.Common.{◌≡◌, ◌≢◌, ◌⊎◌, inl, inr, ⊎_elim, ℕ, zero, suc, ◌+◌, ◌*◌, ◌/◌, ◌%◌, ◌^◌, ◌<◌, ◌≤◌, List, length, set, slice_index, sym, refl, ap, ◌∙◌, subst, arith}
use native.Mathlib.Decide.{ℕ_discrete}
use mathlib.Core.Logic.{dite}
use Rattle.std.specs.Int.{bit_at}
use Rattle.std.specs.Int.Bits.{bit_or}
use Rattle.std.proofs.lemmas.Nat.{div-add-mod'}
use Rattle.std.proofs.lemmas.List.{get_or-set_same, get_or-set_other}
use Rattle.hibitset_atomic.specs.Lists.{Has}
use Rattle.hibitset_atomic.specs.Rule.{IsSet, marks, pick}
use Rattle.hibitset_atomic.proofs.OrBitLemmas.{stays, sets, others}

pub mark_div : (p b : ℕ) → b < 64 → (p * 64 + b) / 64 ≡ p
mark_div p b lt = omega arith

pub mark_mod : (p b : ℕ) → b < 64 → (p * 64 + b) % 64 ≡ b
mark_mod p b lt = omega arith

pub mark_of : (m : ℕ) → m / 64 * 64 + m % 64 ≡ m
mark_of m = div-add-mod' m 64

-- the word p with its bit b set
abbrev pub with_bit : List ℕ → ℕ → ℕ → ℕ
with_bit words p b = bit_or (slice_index words p) (2 ^ b)

-- the words with this one in its place
abbrev pub exchanged : List ℕ → ℕ → ℕ → List ℕ
exchanged words p b = set words p (with_bit words p b)

module _ (words : List ℕ) (p b : ℕ) (within : p < length words) (lt : b < 64) where
  pub lit_grows : (m : ℕ) → IsSet words m → IsSet (exchanged words p b) m
  lit_grows m h = dite (ℕ_discrete (m / 64) p)
      (λ e. subst (λ x. bit_at x (m % 64) ≡ 1) (sym (ap (λ (q : ℕ). slice_index (exchanged words p b) q) e ∙ get_or-set_same words p (with_bit words p b) 0 within))
      (stays (slice_index words p) (2 ^ b) (m % 64) (subst (λ q. bit_at (slice_index words q) (m % 64) ≡ 1) e h)))
      (λ ne. subst (λ x. bit_at x (m % 64) ≡ 1) (sym (get_or-set_other words p (m / 64) (with_bit words p b) 0 ne)) h)

  pub lit_new : IsSet (exchanged words p b) (p * 64 + b)
  lit_new = subst (λ q. bit_at (slice_index (exchanged words p b) q) ((p * 64 + b) % 64) ≡ 1) (sym (mark_div p b lt))
      (subst (λ r. bit_at (slice_index (exchanged words p b) p) r ≡ 1) (sym (mark_mod p b lt))
      (subst (λ x. bit_at x b ≡ 1) (sym (get_or-set_same words p (with_bit words p b) 0 within)) (sets (slice_index words p) b)))

  pub lit_was : (m : ℕ) → IsSet (exchanged words p b) m → IsSet words m ⊎ (m ≡ p * 64 + b)
  lit_was m h = dite (ℕ_discrete (m / 64) p)
      (λ e. let k = subst (λ x. bit_at x (m % 64) ≡ 1) (ap (λ (q : ℕ). slice_index (exchanged words p b) q) e ∙ get_or-set_same words p (with_bit words p b) 0 within) h in
      dite (ℕ_discrete (m % 64) b)
      (λ same. inr (sym (mark_of m) ∙ ap (λ (q : ℕ). q * 64 + m % 64) e ∙ ap (λ (r : ℕ). p * 64 + r) same))
      (λ ne. inl (subst (λ q. bit_at (slice_index words q) (m % 64) ≡ 1) (sym e) (sym (others (slice_index words p) b (m % 64) ne) ∙ k))))
      (λ ne. inl (subst (λ x. bit_at x (m % 64) ≡ 1) (get_or-set_other words p (m / 64) (with_bit words p b) 0 ne) h))

-- the bit b of the word p, and the mark
pub lit_at : (words : List ℕ) (p b : ℕ) → b < 64 → bit_at (slice_index words p) b ≡ 1 → IsSet words (p * 64 + b)
lit_at words p b lt h = subst (λ q. bit_at (slice_index words q) ((p * 64 + b) % 64) ≡ 1) (sym (mark_div p b lt)) (subst (λ r. bit_at (slice_index words p) r ≡ 1) (sym (mark_mod p b lt)) h)

pub at_lit : (words : List ℕ) (p b : ℕ) → b < 64 → IsSet words (p * 64 + b) → bit_at (slice_index words p) b ≡ 1
at_lit words p b lt h = subst (λ r. bit_at (slice_index words p) r ≡ 1) (mark_mod p b lt) (subst (λ q. bit_at (slice_index words q) ((p * 64 + b) % 64) ≡ 1) (mark_div p b lt) h)

has_pick : (c m : ℕ) (ms : List ℕ) (x : ℕ) → Has ms x → Has (pick c m ms) x
has_pick zero m ms x h = h
has_pick (suc c) m ms x h = inr h

pick_here : (c m : ℕ) (ms : List ℕ) → c ≡ 1 → Has (pick c m ms) m
pick_here zero m ms e = absurd (omega arith)
pick_here (suc c) m ms e = inl refl

pick_from : (c m : ℕ) (ms : List ℕ) (x : ℕ) → c < 2 → Has (pick c m ms) x → ((x ≡ m) × (c ≡ 1)) ⊎ Has ms x
pick_from zero m ms x lt h = inr h
pick_from (suc c) m ms x lt h = ⊎_elim (λ e. inl (e, omega arith)) (λ k. inr k) h

pub has_marks : (p n k m : ℕ) → m / 64 ≡ p → m % 64 < k → bit_at n (m % 64) ≡ 1 → Has (marks p n k) m
unfolding marks
has_marks p n zero m e lt h = absurd (omega arith)
has_marks p n (suc k) m e lt h = dite (ℕ_discrete (m % 64) k)
    (λ same. subst (Has (pick (bit_at n k) (p * 64 + k) (marks p n k))) (ap (λ (r : ℕ). p * 64 + r) (sym same) ∙ ap (λ (q : ℕ). q * 64 + m % 64) (sym e) ∙ mark_of m)
    (pick_here (bit_at n k) (p * 64 + k) (marks p n k) (subst (λ r. bit_at n r ≡ 1) same h)))
    (λ ne. has_pick (bit_at n k) (p * 64 + k) (marks p n k) m (has_marks p n k m e (let q : m % 64 ≢ k = ne in omega arith) h))

pub marks_stand : (p n k m : ℕ) → k ≤ 64 → Has (marks p n k) m → (m / 64 ≡ p) × (bit_at n (m % 64) ≡ 1)
unfolding marks
marks_stand p n zero m le h = absurd h
marks_stand p n (suc k) m le h = ⊎_elim
    (λ t. (ap (λ (x : ℕ). x / 64) t.0 ∙ mark_div p k (omega arith), ap (λ (x : ℕ). bit_at n x) (ap (λ (x : ℕ). x % 64) t.0 ∙ mark_mod p k (omega arith)) ∙ t.1))
    (λ t. marks_stand p n k m (omega arith) t)
    (pick_from (bit_at n k) (p * 64 + k) (marks p n k) m (omega arith) h)
