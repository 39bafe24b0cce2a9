-- For callers: what the list of a mask's members says of a column, and that room stays.
use Rattle.std.proofs.Common.{◌≡◌, ◌≤◌, ◌/◌, ℕ, Bool, Contains, None, inl, inr, sym, ◌∙◌, ap, arith}
use Rattle.std.specs.Option.{is_some}
use Rattle.std.proofs.lemmas.Bool.{cases_lt}
use Rattle.hibitset_base.specs.Members.{members_below}
use Rattle.hibitset_base.specs.declared.util.TheConstants.{MAX_EID}
use Rattle.hibitset_base.specs.Decisions.{same_or_not}
use Rattle.hibitset_base.proofs.CallerLemmas.{members_contain}
use Rattle.hibitset_base.proofs.MemberLemmas.{true_or_false}
use Rattle.hibitset_store.specs.declared.columns.Column.{Column}
use Rattle.hibitset_store.specs.declared.pages.TheConstants.{PAGE}
use Rattle.hibitset_store.specs.Columns.{Map}
use Rattle.hibitset_store.specs.Capacity.{HasRoom, MakesRoom, slots}
use Rattle.hibitset_store.proofs.PageLemmas.{no_value}

-- A number that the list of the keys lacks has no value. The first two premises are clauses of `mask`.
pub none_unlisted : {V : Type 0} (values : Map V) (holds : ℕ → Bool) → ((i : ℕ) → holds i ≡ is_some (values i)) → ((i : ℕ) → MAX_EID ≤ i → values i ≡ None)
    → (i : ℕ) → ¬ Contains (members_below MAX_EID holds) i → values i ≡ None
none_unlisted values holds keys within i gone = elim (true_or_false (holds i)) [
  | inl there ↦ elim (cases_lt i MAX_EID) [
    | inl below ↦ absurd (gone ((members_contain MAX_EID holds i).1 (below, there)))
    | inr past ↦ within i past
  ]
  | inr clear ↦ no_value (holds i) (values i) (keys i) clear
]

-- Room for an index stays where room was made for another one, as the clause `most` of `insert` says.
pub room_stays : {V : Type 0} (id : ℕ) (old new : Column V) → MakesRoom id old new → (i : ℕ) → HasRoom old i → HasRoom new i
room_stays id old new makes i (page, word) = (
  elim (same_or_not (i / PAGE) (id / PAGE)) [
    | inl same ↦ elim makes.page [ inl kept ↦ ap (slots new) same ∙ (kept ∙ (ap (slots old) (sym same) ∙ page)) | inr made ↦ ap (slots new) same ∙ made ]
    | inr other ↦ makes.others (i / PAGE) other ∙ page
  ],
  (let words = makes.words.0 in omega (arith, words, word)),
)
