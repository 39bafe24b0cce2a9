-- What a walk gives to a method that takes it to its end.
use Rattle.std.proofs.Common.{◌≡◌, ℕ, List, [], ◌∷◌, Bool, ap, sym, ◌∙◌, None}
use Rattle.std.specs.Iterator.{Yields}
use Rattle.hibitset_base.specs.Walk.{items_left, WalkSteps}
use Rattle.hibitset_base.specs.declared.iter.BitIter.{BitIter}

module _ {T : Type 0} (holds : T → ℕ → Bool) (word : T → ℕ → ℕ → ℕ) where
  -- the items that are given before none is left are those that it had
  pub gives-items_left : (s t u : BitIter T) (xs : List ℕ) → Yields (WalkSteps holds word) s xs t → WalkSteps holds word t None u → xs ≡ items_left holds s
  gives-items_left s t u [] same ended = sym (ap (items_left holds) same ∙ ended.0.0)
  gives-items_left s t u (x ∷ xs) steps ended = ap (λ ys. x ∷ ys) (gives-items_left steps.0 t u xs steps.2 ended) ∙ sym steps.1.0
