-- Sets that are kept in a list, as sets by their numbers.
use Rattle.std.proofs.Common.{◌≡◌, ℕ, zero, suc, ◌<◌, ◌≢◌, Bool, false, List, [], ◌∷◌, length, get_or, set, refl, sym, ◌∙◌, ap, arith, inl, inr}
use Rattle.std.proofs.Math.Path.{fun_ext}
use Rattle.std.proofs.lemmas.List.{set-set, get_or-set_other}
use Rattle.std.specs.Prelude.{slice_get, if◌then◌else◌, ◌==◌}
use Rattle.std.specs.Option.{option_map_or}
use Rattle.std.proofs.lemmas.Bool.Decides.{nat_tests}
use Rattle.hibitset.specs.declared.set.BitSet.{BitSet}
use Rattle.hibitset.specs.BitSet.{has}
use Rattle.hibitset_base.proofs.MemberLemmas.{true_or_false}
use Rattle.hibitset_run.specs.declared.script.Slot.{Slot}
use Rattle.hibitset_run.specs.declared.script.Slot.TheVariants.{A, B, C, D, E, F, G, H}
use Rattle.hibitset_run.specs.Script.{Sets, sets_of, with_set, slot_number}

pub slot_number-lt : (slot : Slot) → slot_number slot < 8
slot_number-lt A = omega arith
slot_number-lt B = omega arith
slot_number-lt C = omega arith
slot_number-lt D = omega arith
slot_number-lt E = omega arith
slot_number-lt F = omega arith
slot_number-lt G = omega arith
slot_number-lt H = omega arith

-- the test of the set at a place of the list
abbrev kept_at : List BitSet → ℕ → ℕ → Bool
kept_at kept n i = option_map_or (λ set. has set i) (slice_get kept n) false

kept_at-within : (kept : List BitSet) (n : ℕ) (d : BitSet) → n < length kept → (i : ℕ) → kept_at kept n i ≡ has (get_or kept n d) i
kept_at-within [] n d within i = absurd (omega arith)
kept_at-within (one ∷ kept) zero d within i = refl
kept_at-within (one ∷ kept) (suc n) d within i = kept_at-within kept n d (omega arith) i

kept_at-set : (kept : List BitSet) (n : ℕ) (new : BitSet) → n < length kept → (m i : ℕ) → kept_at (set kept n new) m i ≡ (if m == n then has new i else kept_at kept m i)
kept_at-set [] n new within m i = absurd (omega arith)
kept_at-set (one ∷ kept) zero new within zero i = refl
kept_at-set (one ∷ kept) zero new within (suc m) i = grind (arith, nat_tests)
kept_at-set (one ∷ kept) (suc n) new within zero i = grind (arith, nat_tests)
kept_at-set (one ∷ kept) (suc n) new within (suc m) i = grind (arith, nat_tests, kept_at-set kept n new (omega arith) m i)

kept_at-set_same : (kept : List BitSet) (n : ℕ) (d new : BitSet) → n < length kept → ((i : ℕ) → has new i ≡ has (get_or kept n d) i) → (m i : ℕ) → kept_at (set kept n new) m i ≡ kept_at kept m i
kept_at-set_same [] n d new within same m i = absurd (omega arith)
kept_at-set_same (one ∷ kept) zero d new within same zero i = same i
kept_at-set_same (one ∷ kept) zero d new within same (suc m) i = refl
kept_at-set_same (one ∷ kept) (suc n) d new within same zero i = refl
kept_at-set_same (one ∷ kept) (suc n) d new within same (suc m) i = kept_at-set_same kept n d new (omega arith) same m i

module _ (kept : List BitSet) (slot : Slot) (d : BitSet) (long : length kept ≡ 8) where
  within : slot_number slot < length kept
  within = omega (arith, slot_number-lt slot)

  -- the set of a slot
  pub sets_of-at : sets_of kept slot ≡ has (get_or kept (slot_number slot) d)
  sets_of-at = fun_ext (kept_at-within kept (slot_number slot) d within)

  -- one set put in the place of another
  pub sets_of-set : (new : BitSet) (members : ℕ → Bool) → ((i : ℕ) → has new i ≡ members i) → sets_of (set kept (slot_number slot) new) ≡ with_set (sets_of kept) slot members
  sets_of-set new members same =
      fun_ext (λ other. fun_ext (λ i. kept_at-set kept (slot_number slot) new within (slot_number other) i
      ∙ ap (λ b. if slot_number other == slot_number slot then b else sets_of kept other i) (same i)))

  -- a set put in the place of one with the same members
  pub sets_of-set_same : (new : BitSet) → ((i : ℕ) → has new i ≡ has (get_or kept (slot_number slot) d) i) → sets_of (set kept (slot_number slot) new) ≡ sets_of kept
  sets_of-set_same new same = fun_ext (λ other. fun_ext (λ i. kept_at-set_same kept (slot_number slot) d new within same (slot_number other) i))

  -- one set taken out, with another left, and a third put back in its place
  pub sets_of-put_back : (left new : BitSet) (members : ℕ → Bool) → ((i : ℕ) → has new i ≡ members i) → sets_of (set (set kept (slot_number slot) left) (slot_number slot) new) ≡ with_set (sets_of kept) slot members
  sets_of-put_back left new members same = rw (set-set kept (slot_number slot) left new) (sets_of-set new members same)

  pub sets_of-put_back_same : (left new : BitSet) → ((i : ℕ) → has new i ≡ has (get_or kept (slot_number slot) d) i) → sets_of (set (set kept (slot_number slot) left) (slot_number slot) new) ≡ sets_of kept
  sets_of-put_back_same left new same = rw (set-set kept (slot_number slot) left new) (sets_of-set_same new same)

-- the set of another slot, while one is taken out
pub sets_of-other : (kept : List BitSet) (slot other : Slot) (d left : BitSet) → length kept ≡ 8 → slot_number other ≢ slot_number slot → sets_of kept other ≡ has (get_or (set kept (slot_number slot) left) (slot_number other) d)
sets_of-other kept slot other d left long apart = rw (get_or-set_other kept (slot_number slot) (slot_number other) left d apart) (sets_of-at kept other d long)

-- a set put in its own place
pub with_set-same : (sets : Sets) (slot : Slot) (members : ℕ → Bool) → ((i : ℕ) → members i ≡ sets slot i) → ((other : Slot) → slot_number other ≡ slot_number slot → sets other ≡ sets slot) → with_set sets slot members ≡ sets
with_set-same sets slot members same alike = fun_ext (λ other. fun_ext (λ i. by other i))
  where
    by : (other : Slot) (i : ℕ) → with_set sets slot members other i ≡ sets other i
    by other i = elim (true_or_false (slot_number other == slot_number slot)) [
      | inl is ↦ (let e : slot_number other ≡ slot_number slot = grind (arith, nat_tests) in rw is (same i ∙ ap (λ f. f i) (sym (alike other e))))
      | inr apart ↦ rw apart refl
    ]

-- slots with the same number have the same set
pub sets_of-alike : (kept : List BitSet) (slot other : Slot) → slot_number other ≡ slot_number slot → sets_of kept other ≡ sets_of kept slot
sets_of-alike kept slot other e = ap (kept_at kept) e
