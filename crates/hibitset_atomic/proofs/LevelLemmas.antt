-- The layers among the marks: what holds of all marks of an index, and what a load at a position of a layer tells.
use Rattle.std.proofs.Common.{◌≡◌, ◌≢◌, ℕ, zero, suc, ◌+◌, ◌-◌, ◌*◌, ◌/◌, ◌%◌, ◌^◌, ◌<◌, sym, refl, subst, arith, add-one}
use Rattle.std.specs.Int.{bit_at}
use Rattle.atomic_table.specs.Table.{Me}
use Rattle.hibitset_base.proofs.SummaryUpdateLemmas.{way_up}
use Rattle.hibitset_atomic.specs.declared.shared.view.View.{View}
use Rattle.hibitset_atomic.specs.Lists.{Has}
use Rattle.hibitset_atomic.specs.Levels.{first_mark}
use Rattle.hibitset_atomic.specs.Rule.{IsSet, HoldsOnPath, Knows, LoadAt, above}
use Rattle.hibitset_atomic.proofs.LoadLemmas.{under_nonzero, under_seen, under_known, under_old}
use Rattle.hibitset_atomic.specs.declared.shared.layout.TheConstants.{LAYER3_START, ROW_WORDS}
use Rattle.hibitset_atomic.specs.declared.atomic.TheConstants.{ATOMIC_MAX_EID}

-- a layer begins with a word
pub whole_words : (l : ℕ) → l < 4 → first_mark l % 64 ≡ 0
whole_words zero lt = refl
whole_words (suc zero) lt = refl
whole_words (suc (suc zero)) lt = refl
whole_words (suc (suc (suc zero))) lt = refl
whole_words (suc (suc (suc (suc l)))) lt = absurd (omega arith)

pub within_row : (l q : ℕ) → l < 4 → q < 64 ^ (3 - l) → first_mark l / 64 + q < ROW_WORDS
within_row zero q lt within = omega arith
within_row (suc zero) q lt within = omega arith
within_row (suc (suc zero)) q lt within = omega arith
within_row (suc (suc (suc zero))) q lt within = omega arith
within_row (suc (suc (suc (suc l)))) q lt within = absurd (omega arith)

-- the mark of an index in each layer
mark_0 : (i : ℕ) → i ≡ first_mark 0 + i / 64 ^ 0
mark_0 i = omega arith

mark_1 : (i : ℕ) → above i ≡ first_mark 1 + i / 64 ^ 1
mark_1 i = omega arith

mark_2 : (i : ℕ) → above (above i) ≡ first_mark 2 + i / 64 ^ 2
mark_2 i = omega arith

mark_3 : (i : ℕ) → above (above (above i)) ≡ first_mark 3 + i / 64 ^ 3
mark_3 i = omega arith

pub whole_at : (P : ℕ → Type 0) (i l : ℕ) → HoldsOnPath P i → l < 4 → P (first_mark l + i / 64 ^ l)
whole_at P i zero w lt = subst P (mark_0 i) w.0
whole_at P i (suc zero) w lt = subst P (mark_1 i) w.1
whole_at P i (suc (suc zero)) w lt = subst P (mark_2 i) w.2
whole_at P i (suc (suc (suc zero))) w lt = subst P (mark_3 i) w.3
whole_at P i (suc (suc (suc (suc l)))) w lt = absurd (omega arith)

pub at_whole : (P : ℕ → Type 0) (i : ℕ) → ((l : ℕ) → l < 4 → P (first_mark l + i / 64 ^ l)) → HoldsOnPath P i
at_whole P i each = (
  subst P (sym (mark_0 i)) (each 0 (omega arith)),
  subst P (sym (mark_1 i)) (each 1 (omega arith)),
  subst P (sym (mark_2 i)) (each 2 (omega arith)),
  subst P (sym (mark_3 i)) (each 3 (omega arith)),
)

-- the mark of an index one layer up
pub mark_up : (i l : ℕ) → l < 4 → above (first_mark l + i / 64 ^ l) ≡ first_mark (l + 1) + i / 64 ^ (l + 1)
mark_up i l lt =
    let z = whole_words l lt in
    let u = way_up i l in
    let first : first_mark (l + 1) ≡ ATOMIC_MAX_EID + first_mark l / 64 = rw (add-one l) refl in
    rw first (omega (arith, z, u))

-- the marks of an index in range, and those below the top layer
pub mark-lt : (i l : ℕ) → i < ATOMIC_MAX_EID → l < 4 → first_mark l + i / 64 ^ l < 64 * ROW_WORDS
mark-lt i zero within lt = omega arith
mark-lt i (suc zero) within lt = omega arith
mark-lt i (suc (suc zero)) within lt = omega arith
mark-lt i (suc (suc (suc zero))) within lt = omega arith
mark-lt i (suc (suc (suc (suc l)))) within lt = absurd (omega arith)

pub lower_mark-lt : (i l : ℕ) → i < ATOMIC_MAX_EID → l + 1 < 4 → first_mark l + i / 64 ^ l < 64 * LAYER3_START
lower_mark-lt i zero within lt = omega arith
lower_mark-lt i (suc zero) within lt = omega arith
lower_mark-lt i (suc (suc zero)) within lt = omega arith
lower_mark-lt i (suc (suc (suc l))) within lt = absurd (omega arith)

module _ (l q : ℕ) (lt : l < 4) where
  -- the bit of an index in the word at its position
  place_of : (i : ℕ) → i / 64 ^ (l + 1) ≡ q → (first_mark l + i / 64 ^ l) / 64 ≡ first_mark l / 64 + q
  place_of i e = let z = whole_words l lt in let u = way_up i l in omega (arith, z, u, e)

  bit_of : (i : ℕ) → (first_mark l + i / 64 ^ l) % 64 ≡ i / 64 ^ l % 64
  bit_of i = let z = whole_words l lt in omega (arith, z)

  mark_of_bit : (b : ℕ) → (first_mark l / 64 + q) * 64 + b ≡ first_mark l + (64 * q + b)
  mark_of_bit b = let z = whole_words l lt in omega (arith, z)

  mark_over : first_mark (l + 1) + q ≡ ATOMIC_MAX_EID + (first_mark l / 64 + q)
  mark_over = rw (add-one l) (omega arith)

  module _ (n : ℕ) (v w : Me (Unit {0}) View) (t : LoadAt (first_mark l / 64 + q) v n w) where
    pub load_some : Has v.0.seen (first_mark (l + 1) + q) → 0 < n
    load_some h = let ne : n ≢ 0 = under_nonzero (first_mark l / 64 + q) n v w t (subst (Has v.0.seen) mark_over h) in omega (arith, ne)

    pub load_seen : (b : ℕ) → b < 64 → bit_at n b ≡ 1 → Has w.0.seen (first_mark l + (64 * q + b))
    load_seen b small stands = subst (Has w.0.seen) (mark_of_bit b) (under_seen (first_mark l / 64 + q) n v w t b small stands)

    pub load_old : (i : ℕ) → i < ATOMIC_MAX_EID → IsSet v.0.old i → i / 64 ^ (l + 1) ≡ q → bit_at n (i / 64 ^ l % 64) ≡ 1
    load_old i small old e =
        subst (λ b. bit_at n b ≡ 1) (bit_of i)
        (whole_at (λ m. m / 64 ≡ first_mark l / 64 + q → bit_at n (m % 64) ≡ 1) i l (under_old (first_mark l / 64 + q) n v w t i small old) lt (place_of i e))

    pub load_known : (i : ℕ) → Knows v.0 i → i / 64 ^ (l + 1) ≡ q → bit_at n (i / 64 ^ l % 64) ≡ 1
    load_known i knows e =
        let h : Has v.0.seen (first_mark l + i / 64 ^ l) = whole_at (Has v.0.seen) i l knows lt in
        let m-is : first_mark l + i / 64 ^ l ≡ (first_mark l / 64 + q) * 64 + i / 64 ^ l % 64 = (let z = whole_words l lt in let u = way_up i l in omega (arith, z, u, e)) in
        under_known (first_mark l / 64 + q) n v w t (i / 64 ^ l % 64) (omega arith) (subst (Has v.0.seen) m-is h)
