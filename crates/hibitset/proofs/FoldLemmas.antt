-- A fold in parts gives the answer of the whole list, where the answer goes by lists put together.
use Rattle.std.proofs.Common.{◌≡◌, ℕ, List, [], ◌∷◌, ◌++◌, sym, ap, subst, ◌∙◌, append-nil, append_assoc}
use Rattle.std.specs.List.{FoldsTo, AllZip, flat_map}
use Rattle.hibitset_base.specs.Folds.{FoldsFrom, Combines, FoldsInParts}

module _ {U : Type 0} (init : U → Type 0) (step : U → ℕ → U → Type 0) (combine : U → U → U → Type 0) (answer : List ℕ → U)
    (begins : (e : U) → init e → e ≡ answer [])
    (steps : (xs : List ℕ) (x : ℕ) (b : U) → step (answer xs) x b → b ≡ answer (xs ++ x ∷ []))
    (joins : (xs ys : List ℕ) (c : U) → combine (answer xs) (answer ys) c → c ≡ answer (xs ++ ys)) where
  folds_on : (done xs : List ℕ) (a r : U) → a ≡ answer done → FoldsTo step a xs r → r ≡ answer (done ++ xs)
  folds_on done [] a r e h = sym h ∙ e ∙ ap answer (sym (append-nil done))
  folds_on done (x ∷ xs) a r e h =
      let here : h.0 ≡ answer (done ++ x ∷ []) = steps done x h.0 (subst (λ z. step z x h.0) e h.1) in
      folds_on (done ++ x ∷ []) xs h.0 r here h.2 ∙ ap answer (append_assoc done (x ∷ []) xs)

  piece : (xs : List ℕ) (r : U) → FoldsFrom init step xs r → r ≡ answer xs
  piece xs r h = folds_on [] xs h.0 r (begins h.0 h.1) h.2

  joined : (done : List ℕ) (pieces : List (List ℕ)) (us : List U) (a r : U) → a ≡ answer done → AllZip (FoldsFrom init step) pieces us → FoldsTo combine a us r → r ≡ answer (done ++ flat_map (λ l. l) pieces)
  joined done [] [] a r e z h = sym h ∙ e ∙ ap answer (sym (append-nil done))
  joined done [] (u ∷ us) a r e z h = absurd z
  joined done (p ∷ ps) [] a r e z h = absurd z
  joined done (p ∷ ps) (u ∷ us) a r e z h =
      let first : combine (answer done) u h.0 = subst (λ y. combine y u h.0) e h.1 in
      let both : combine (answer done) (answer p) h.0 = subst (λ y. combine (answer done) y h.0) (piece p u z.0) first in
      joined (done ++ p) ps us h.0 r (joins done p h.0 both) z.1 h.2 ∙ ap answer (append_assoc done p (flat_map (λ l. l) ps))

  combined : (pieces : List (List ℕ)) (us : List U) (r : U) → AllZip (FoldsFrom init step) pieces us → Combines combine us r → r ≡ answer (flat_map (λ l. l) pieces)
  combined [] [] r z h = absurd h
  combined (p ∷ ps) [] r z h = absurd h
  combined [] (u ∷ us) r z h = absurd z
  combined (p ∷ ps) (u ∷ us) r z h = joined p ps us u r (piece p u z.0) z.1 h

  pub answer_of_parts : (xs : List ℕ) (r : U) → FoldsInParts init step combine xs r → r ≡ answer xs
  answer_of_parts xs r h = combined h.1.0 h.0 r h.1.2 h.2 ∙ ap answer h.1.1
