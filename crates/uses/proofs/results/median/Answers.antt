use Rattle.std.proofs.Common.{◌≡◌, ℕ, ◌/◌, ◌<◌, List, [], ◌∷◌, length, get_or, Option, Some, None, MatchOption, refl, sym, ◌∙◌, ap, arith}
use Rattle.std.specs.Prelude.{slice_get}
use Rattle.std.proofs.lemmas.Option.{slice_get-get_or}
use Rattle.hibitset.specs.Prelude.{IsNth, MAX_EID, has, members_of}
use Rattle.hibitset.specs.declared.set.BitSet.{BitSet}
use Rattle.uses.specs.Results.{IsMedian}
use Rattle.uses.proofs.results.median.Goals as goal

-- a list without a middle has no element
no_middle : (xs : List ℕ) → None ≡ slice_get xs (length xs / 2) → xs ≡ []
no_middle [] e = refl
no_middle (x ∷ xs) e = absurd (
    let within : length (x ∷ xs) / 2 < length (x ∷ xs) = omega arith in
    let some = slice_get-get_or (x ∷ xs) (length (x ∷ xs) / 2) 0 within in
    let wrong : None ≡ Some (get_or (x ∷ xs) (length (x ∷ xs) / 2) 0) = e ∙ some in
    cc)

median_of : (set : BitSet) (r : Option ℕ) → ((k x : ℕ) → slice_get (members_of set) k ≡ Some x → IsNth MAX_EID k (has set) x) → r ≡ slice_get (members_of set) (length (members_of set) / 2) → MatchOption r (members_of set ≡ []) (IsMedian set)
median_of set None nth e = no_middle (members_of set) e
median_of set (Some x) nth e = let h = nth (length (members_of set) / 2) x (sym e) in record { stands = h.stands; before = h.before }

pub returns : goal.returns
returns c =
    let set = c.args.found.now in
    median_of set c.select.result (c.list_laws.ensures.nth (has set)) (c.select.ensures ∙ ap (λ n. slice_get (members_of set) (n / 2)) c.len.ensures)
