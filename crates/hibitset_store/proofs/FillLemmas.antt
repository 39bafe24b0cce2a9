-- What has been poured into the slots.
use Rattle.std.proofs.Common.{◌≡◌, ℕ, zero, suc, ◌+◌, List, [], ◌∷◌, ◌++◌, length, Option, None, Result, Ok, Err, refl, ◌∙◌, ap, arith}
use Rattle.std.specs.Prelude.{MatchResult, OnOk}
use Rattle.std.specs.Iterator.{Drains, Yields}
use Rattle.hibitset_store.specs.declared.pages.EmptySlots.{EmptySlots}
use Rattle.hibitset_store.specs.EmptySlots.{GivesSlot}
use Rattle.hibitset_store.specs.Pages.{value_in}

module _ {V : Type 0} where
  -- what was given has no value
  given-none : (old new : EmptySlots V) (given : List (Option V)) → Yields GivesSlot old given new → (j : ℕ) → value_in given j ≡ None
  given-none old new [] steps j = refl
  given-none old new (slot ∷ given) (next, step, steps) zero = step.0
  given-none old new (slot ∷ given) (next, step, steps) (suc j) = given-none next new given steps j

  -- and is as many slots as were taken from those that were left
  given-length : (old new : EmptySlots V) (given : List (Option V)) → Yields GivesSlot old given new → old.left ≡ length given + new.left
  given-length old new [] steps = rw steps (omega arith)
  given-length old new (slot ∷ given) (next, step, steps) = let count = given-length next new given steps in let one = step.1 in omega (arith, count, one)

  -- all of them, where the slots have come to their end
  drained-length : (old : EmptySlots V) (given : List (Option V)) → Drains GivesSlot old given → length given ≡ old.left
  drained-length old given (last, (new, steps, end)) = let count = given-length old new given steps in omega (arith, count, end)

  -- slots without a value at the end change no value
  value_in-more : (slots more : List (Option V)) → ((j : ℕ) → value_in more j ≡ None) → (j : ℕ) → value_in (slots ++ more) j ≡ value_in slots j
  value_in-more [] more none j = none j
  value_in-more (value ∷ slots) more none zero = refl
  value_in-more (value ∷ slots) more none (suc j) = value_in-more slots more none j

  -- so nothing that is poured changes one, whether all of it has come or not
  pub same-poured : {E : Type 0} (slots given : List (Option V)) (empty : EmptySlots V) (r : Result (Unit {0}) E) → MatchResult r (λ _. Drains GivesSlot empty given) (λ _. (new : EmptySlots V) × Yields GivesSlot empty given new)
      → (j : ℕ) → value_in (slots ++ given) j ≡ value_in slots j
  same-poured slots given empty (Ok _) (last, (new, steps, end)) = value_in-more slots given (given-none empty new given steps)
  same-poured slots given empty (Err _) (new, steps) = value_in-more slots given (given-none empty new given steps)

  -- and where all of it has come, there are so many slots more
  pub length-poured : {E : Type 0} (before after : ℕ) (given : List (Option V)) (empty : EmptySlots V) (r : Result (Unit {0}) E) → after ≡ before + length given → MatchResult r (λ _. Drains GivesSlot empty given) (λ _. (new : EmptySlots V) × Yields GivesSlot empty given new)
      → OnOk r (after ≡ before + empty.left)
  length-poured before after given empty (Ok _) long all = long ∙ ap (λ n. before + n) (drained-length empty given all)
  length-poured before after given empty (Err _) long some = tt
