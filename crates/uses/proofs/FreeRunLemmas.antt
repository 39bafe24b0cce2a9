-- Runs of free identifiers: where one ends, and where the first of a length begins.
use Rattle.std.proofs.Common.{◌≡◌, ◌⊎◌, ℕ, ◌-◌, ◌<◌, ◌≤◌, ◌&&◌, Bool, true, false, not, Option, Some, None, MatchOption, refl, sym, ◌∙◌, arith, inl, inr, true≢false}
use Rattle.std.specs.Prelude.{nat_le}
use Rattle.std.specs.Option.{unwrap_or}
use Rattle.std.proofs.lemmas.Bool.{cases_lt}
use Rattle.std.proofs.lemmas.Bool.Decides.{nat_tests}
use Rattle.hibitset.specs.Prelude.{IsFirst, HasNone, is_gap_from, MAX_EID}
use Rattle.uses.specs.Ids.{IsFreeRun, IsFirstRun, HasNoRun}

-- A run that begins at `start` ends there.
pub record EndsRun (used : ℕ → Bool) (start end : ℕ) : Type 0 where
  pub from : start ≤ end
  pub within : end ≤ MAX_EID
  pub free : (i : ℕ) → start ≤ i → i < end → used i ≡ false
  pub last : (used end ≡ true) ⊎ (end ≡ MAX_EID)

off_from : (a i : ℕ) (b : Bool) → a ≤ i → (nat_le a i && b) ≡ false → b ≡ false
off_from a i b upto e = grind (arith, nat_tests)

on_from : (a i : ℕ) (b : Bool) → a ≤ i → (nat_le a i && not b) ≡ false → b ≡ true
on_from a i true upto e = refl
on_from a i false upto e = absurd (true≢false (off_from a i true upto e))

stands : (a i : ℕ) (b : Bool) → (nat_le a i && b) ≡ true → (a ≤ i) × (b ≡ true)
stands a i true e = (grind (arith, nat_tests), refl)
stands a i false e = absurd (let h : true ≡ false = grind (arith, nat_tests) in true≢false h)

pub run_end : (used : ℕ → Bool) (start : ℕ) → start < MAX_EID → (item : Option ℕ) → MatchOption item (HasNone MAX_EID (λ i. nat_le start i && used i)) (IsFirst MAX_EID (λ i. nat_le start i && used i)) → EndsRun used start (unwrap_or item MAX_EID)
run_end used start small None none = record {
  from = omega (arith, small);
  within = omega arith;
  free = λ i upto below. off_from start i (used i) upto (none i below);
  last = inr refl;
}
run_end used start small (Some x) first =
    let h = stands start x (used x) first.stands in
    record {
      from = h.0;
      within = let w = first.within in omega (arith, w);
      free = λ i upto below. off_from start i (used i) upto (first.none_before i below);
      last = inl h.1;
    }

module _ (used : ℕ → Bool) (count from start : ℕ) (some : 0 < count) (first : (other : ℕ) → IsFreeRun used count other → from ≤ other) where
  -- no run begins before the first gap
  pub from_gap : IsFirst MAX_EID (is_gap_from from used) start → (other : ℕ) → IsFreeRun used count other → start ≤ other
  from_gap gap other run = elim (cases_lt other start) [
    | inl before ↦ absurd (
        let taken = on_from from other (used other) (first other run) (gap.none_before other before) in
        true≢false (sym taken ∙ run.free other (omega arith) (omega (arith, some))))
    | inr upto ↦ upto
  ]

  -- nor any before the end of what is free there, where that is too short
  pub past_run : IsFirst MAX_EID (is_gap_from from used) start → (end : ℕ) → EndsRun used start end → end - start < count → (other : ℕ) → IsFreeRun used count other → end ≤ other
  past_run gap end ends short other run = elim (cases_lt other end) [
    | inl before ↦ absurd (
        let low = from_gap gap other run in
        let fits = run.within in
        elim ends.last [
          | inl on ↦ true≢false (sym on ∙ run.free end (omega (arith, before)) (omega (arith, short, low)))
          | inr bound ↦ omega (arith, bound, short, low, fits, before)
        ])
    | inr upto ↦ upto
  ]

  -- what is free there is the first run, where it is long enough
  pub first_here : IsFirst MAX_EID (is_gap_from from used) start → (end : ℕ) → EndsRun used start end → count ≤ end - start → IsFirstRun used count start
  first_here gap end ends long = record {
    here = record {
      within = let w = ends.within in let f = ends.from in omega (arith, w, f, long);
      free = λ i upto below. ends.free i upto (omega (arith, below, long));
    };
    first = from_gap gap;
  }

  -- without a gap there is none
  pub no_run : HasNone MAX_EID (is_gap_from from used) → HasNoRun used count
  no_run none other run =
      let fits = run.within in
      let taken = on_from from other (used other) (first other run) (none other (omega (arith, fits, some))) in
      true≢false (sym taken ∙ run.free other (omega arith) (omega (arith, some)))
