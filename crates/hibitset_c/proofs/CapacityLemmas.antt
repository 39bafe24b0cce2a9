-- An index that is added where it was none and removed again leaves the members, and a longer layer 0.
use Rattle.std.proofs.Common.{◌≡◌, ◌≢◌, ℕ, zero, suc, ◌+◌, ◌-◌, ◌/◌, ◌<◌, ◌≤◌, max, Bool, true, false, ◌==◌, ◌&&◌, ◌||◌, not, Option, None, Some, inl, inr, refl, sym, ap, ◌∙◌, arith}
use mathlib.Core.Bool.{true≢false}
use Rattle.std.proofs.Math.Nat.{eq-or-lt_of_le}
use Rattle.std.proofs.lemmas.Bool.{cases_lt}
use Rattle.std.proofs.lemmas.Bool.Decides.{nat_tests}
use Rattle.hibitset_base.specs.declared.util.TheConstants.{MAX_EID}
use Rattle.hibitset.specs.BitSet.{slice_len}
use Rattle.hibitset.specs.declared.set.BitSet.{BitSet}
use Rattle.hibitset.proofs.WithinLemmas.{none_past_slice}
use Rattle.hibitset_c.specs.Set.{has_in}
use Rattle.hibitset_c.specs.Words.{len_of}
use Rattle.hibitset_c.specs.declared.status.TheConstants.{OUT_OF_RANGE, NO_MEMORY, PRESENT}

taken_back : (was now : Bool) (i x : ℕ) → now ≡ (was || i == x) → (i ≡ x → was ≡ false) → (now && not (i == x)) ≡ was
taken_back was now i x put clear = grind (arith, nat_tests)

pub stays_back : (old middle new : ℕ → Bool) (x : ℕ) → old x ≡ false → ((i : ℕ) → middle i ≡ (old i || i == x)) → ((i : ℕ) → new i ≡ (middle i && not (i == x))) → (i : ℕ) → new i ≡ old i
stays_back old middle new x clear put taken i = taken i ∙ taken_back (old i) (middle i) i x (put i) (λ here. ap old here ∙ clear)

there : (was : Bool) (x : ℕ) → (was || x == x) ≡ true
there was x = grind (arith, nat_tests)

its_word : (set : Option BitSet) (i : ℕ) → has_in set i ≡ true → i / 64 < len_of set 0
its_word None i on = absurd (true≢false (sym on))
its_word (Some set) i on = elim (cases_lt (i / 64) (slice_len set 0)) [ inl below ↦ below | inr past ↦ absurd (true≢false (sym on ∙ none_past_slice set i past)) ]

pub some_of : (n : ℕ) → n ≢ 0 → 0 < n
some_of zero other = absurd (other refl)
some_of (suc n) other = omega arith

-- the addition of an index in range that does not fail is done
pub is_done : (status end : ℕ) → status ≤ OUT_OF_RANGE → status ≢ NO_MEMORY → (status ≡ OUT_OF_RANGE → MAX_EID ≤ end - 1) → 0 < end → end ≤ MAX_EID → status ≤ PRESENT
is_done status end most spared range some within = elim (cases_lt status NO_MEMORY) [
  | inl below ↦ omega (arith, below)
  | inr past ↦ elim (eq-or-lt_of_le past) [
    | inl e ↦ absurd (spared (sym e))
    | inr three ↦ absurd (let far = range (omega (arith, three, most)) in omega (arith, far, some, within))
  ]
]

-- a set with a member has the word of it, and no more than the addition made
pub longer : (old middle : Option BitSet) (end : ℕ) → 0 < end → ((i : ℕ) → has_in middle i ≡ (has_in old i || i == end - 1)) → len_of old 0 ≤ len_of middle 0 → len_of middle 0 ≤ max (len_of old 0) ((end - 1) / 64 + 1)
    → len_of middle 0 ≡ max (len_of old 0) ((end + 63) / 64)
longer old middle end some put least most =
    let word = its_word middle (end - 1) (put (end - 1) ∙ there (has_in old (end - 1)) (end - 1)) in
    omega (arith, some, word, least, most)
