-- A position with no item.
use Rattle.std.proofs.Common.{◌≡◌, ℕ, ◌≤◌, List, length, None, inl, inr, sym, ◌∙◌}
use Rattle.std.specs.Prelude.{slice_get}
use Rattle.std.proofs.lemmas.Option.{slice_get_cases}

-- what is not there lies past the end
pub past_of_none : (xs : List ℕ) (at : ℕ) → slice_get xs at ≡ None → length xs ≤ at
past_of_none xs at none = elim (slice_get_cases xs at).1 [ inl there ↦ absurd (let e = sym there.2 ∙ none in cc) | inr past ↦ past.0 ]
