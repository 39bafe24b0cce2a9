-- What a walk's step shows of its cursor is what the walk's users see.
use Rattle.std.proofs.Common.{◌≡◌, ℕ, ◌-◌, ◌≤◌, Bool, List, [], ◌∷◌, ◌++◌, Option, None, Some, MatchOption, refl, sym, ◌∙◌, ap, arith}
use Rattle.std.proofs.lemmas.List.Elements.{All-tail}
use Rattle.hibitset_base.specs.Places.{Place, items_of}
use Rattle.hibitset_base.specs.Cursor.{cursor_places}
use Rattle.hibitset_base.specs.WordsRead.{BitIsSet, AllAreSet, words_of, depth, ReadsTo}
use Rattle.hibitset_base.specs.Walk.{items_left, StepKeeps, WalkSteps, set_of}
use Rattle.hibitset_base.specs.declared.iter.BitIter.{BitIter}
use Rattle.hibitset_base.specs.declared.util.TheConstants.{LAYERS}
use Rattle.hibitset_base.proofs.DescentLemmas.{depth-left}

module _ {T : Type 0} (holds : T → ℕ → Bool) (word : T → ℕ → ℕ → ℕ) (old new : BitIter T) (set : new.set ≡ old.set) where
  few_layers : depth (cursor_places old.cursor) ≤ LAYERS - 1
  few_layers = let h = depth-left 0 old.cursor.masks old.cursor.prefix in let e = old.cursor.formed.long in omega arith

  -- what a walk keeps where it gives no item
  keeps_on : {qs : List Place} → ReadsTo LAYERS (holds old.set) (word old.set) old.reads.count (cursor_places old.cursor) new.reads.count qs
      → words_of (word old.set) qs ≡ words_of (word old.set) (cursor_places new.cursor) → (AllAreSet (word old.set) qs → AllAreSet (word old.set) (cursor_places new.cursor)) → StepKeeps word old new
  unfolding set_of
  keeps_on goes same drawn = record {
    set = set;
    read = goes.taken;
    ahead = rw set (goes.ahead ∙ ap (λ ws. goes.taken ++ ws) same);
    count = goes.count;
    from_set = λ before. rw set (drawn (goes.from_set before));
    few = λ exact before. let few = goes.few exact before in let most = few_layers in omega arith;
  }

  pub walk_steps : (r : Option ℕ) → (r ≡ None → cursor_places new.cursor ≡ [])
      → MatchOption r (ReadsTo LAYERS (holds old.set) (word old.set) old.reads.count (cursor_places old.cursor) new.reads.count (cursor_places new.cursor))
      (λ i. ReadsTo LAYERS (holds old.set) (word old.set) old.reads.count (cursor_places old.cursor) new.reads.count ((record { layer = 0; position = i }) ∷ cursor_places new.cursor))
      → WalkSteps holds word old r new
  unfolding items_left
  walk_steps None end goes =
      let none : cursor_places new.cursor ≡ [] = end refl in
      let items : items_left holds new ≡ [] = rw (set, none) refl in
      ((sym goes.items ∙ ap (items_of (holds old.set)) none, items), keeps_on goes refl (λ h. h))
  walk_steps (Some i) end goes =
      (rw set (sym goes.items), keeps_on goes refl (λ h. All-tail (BitIsSet (word old.set)) (record { layer = 0; position = i }) (cursor_places new.cursor) h))
