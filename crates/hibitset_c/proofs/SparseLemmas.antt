-- Members of a sparse set and its words; a sparse set without members, which adds none to another.
use Rattle.std.proofs.Common.{◌≡◌, ◌↔◌, ℕ, ◌/◌, ◌^◌, ◌<◌, ◌≤◌, Bool, true, false, ◌||◌, [], inl, inr, Option, None, Some, refl, sym, ap, ◌∙◌, arith}
use mathlib.Core.Bool.{true≢false}
use Rattle.std.specs.Prelude.{is_some}
use Rattle.std.proofs.lemmas.Bool.{cases_lt, false_from_ne_true}
use Rattle.hibitset_base.specs.Connectives.{is_member, IsSubset, IsSymmetricDifference, IsUnion}
use Rattle.hibitset_base.specs.Members.{members_below}
use Rattle.hibitset_base.specs.Virtual.{differ}
use Rattle.hibitset_base.specs.declared.util.TheConstants.{MAX_EID}
use Rattle.hibitset_base.proofs.FirstLemmas.{none_below}
use Rattle.hibitset_base.proofs.MemberLemmas.{members-none}
use Rattle.hibitset.specs.Extension.{MembersEndBy}
use Rattle.hibitset.specs.Merge.{NoWordsFrom}
use Rattle.hibitset_sparse.specs.Extension.{member_apart}
use Rattle.hibitset_sparse.specs.SparseBitSet.{has, word_of, has_is_lawful}
use Rattle.hibitset_sparse.specs.declared.set.SparseBitSet.{SparseBitSet}
use Rattle.hibitset_sparse.proofs.ExactLemmas.{members-within, words-fit}
use Rattle.hibitset_c.specs.Sparse.{has_in}
use Rattle.hibitset_c.specs.declared.set_or_seat.SetOrSeat.{SetOrSeat}
use Rattle.hibitset_c.specs.declared.set_or_seat.SetOrSeat.TheVariants.{Alone, Seated, Sparse, Nothing}
use Rattle.hibitset_c.proofs.CombineLemmas.{every, no_words_past}
use Rattle.hibitset_c.proofs.NoMemberLemmas.{or_stays, xor_stays}

-- a word with a member is not 0
pub word_of_near : (set : SparseBitSet) (i j : ℕ) → j / 64 ≡ i / 64 → has set j ≡ true → 0 < word_of set 0 (i / 64)
word_of_near set i j same on = elim (cases_lt 0 (word_of set 0 (i / 64))) [
  | inl some ↦ some
  | inr none ↦ absurd (member_apart set j i on (omega (arith, none)) same)
]

-- and one that is 0 has none
pub not_near : (set : SparseBitSet) (i : ℕ) → word_of set 0 (i / 64) ≡ 0 → ¬ ((j : ℕ) × (j / 64 ≡ i / 64) × (has set j ≡ true))
not_near set i none near = member_apart set near.0 i near.2 none near.1

-- a member lies in the range
pub within : (set : SparseBitSet) (i : ℕ) → has set i ≡ true → i < MAX_EID
unfolding has word_of
within set i on = members-within set.chunks i on

past : (set : SparseBitSet) (i : ℕ) → MAX_EID ≤ i → has set i ≡ false
past set i from = false_from_ne_true (has set i) (λ on. let below = within set i on in omega (arith, from, below))

-- all numbers of a sparse set are members
pub sparse_members : (set : SparseBitSet) (i : ℕ) → is_member (has set) i ≡ has set i
sparse_members set i = every (has set) (past set) i

fits : (set : SparseBitSet) (p : ℕ) → word_of set 0 p < 2 ^ 64
unfolding word_of
fits set p = words-fit set.chunks 0 p

-- a sparse set has no word past that of its last member
pub sparse_ends : (set : SparseBitSet) (end : ℕ) → MembersEndBy (has set) end → NoWordsFrom (word_of set) end
sparse_ends set end ends = no_words_past (has set) (word_of set) (has set) end (has_is_lawful set) (fits set) (λ i. refl) ends

-- and one whose members end before the first index has none
pub no_end : (set : SparseBitSet) → MembersEndBy (has set) 0 → members_below MAX_EID (has set) ≡ []
no_end set ends = members-none (has set) 0 MAX_EID (λ i from below. false_from_ne_true (has set i) (λ on. let h = ends i on in omega (arith, h)))

-- what lies behind a handle, seen through a loan of it
pub content_is : (content : Option SetOrSeat) (lent : SetOrSeat) (set : SparseBitSet) → content ≡ Some lent → lent ≡ Sparse set → content ≡ Some (Sparse set)
content_is content lent set is what = is ∙ ap Some what

past_in : (content : Option SetOrSeat) (i : ℕ) → MAX_EID ≤ i → has_in content i ≡ false
past_in None i from = refl
past_in (Some (Alone set)) i from = refl
past_in (Some (Seated m)) i from = refl
past_in (Some (Sparse set)) i from = past set i from
past_in (Some Nothing) i from = refl

-- what C keeps without a member adds none
module _ (old : ℕ → Bool) (content : Option SetOrSeat) (none : members_below MAX_EID (has_in content) ≡ []) where
  pub or_none : IsUnion old (has_in content) old
  or_none i = or_stays old (has_in content) none i ∙ ap (λ b. old i || b) (every (has_in content) (past_in content) i)

  pub xor_none : IsSymmetricDifference old (has_in content) old
  xor_none i = xor_stays old (has_in content) none i ∙ ap (λ b. differ (old i) b) (every (has_in content) (past_in content) i)

-- the set that there is not has each member of another only if that has none
pub subset_of_none : (content other : Option SetOrSeat) → is_some other ≡ false → (members_below MAX_EID (has_in content) ≡ []) ↔ IsSubset MAX_EID (has_in content) (has_in other)
subset_of_none content (Some held) none = absurd (true≢false none)
subset_of_none content None none = (
  λ empty i below on. absurd (true≢false (sym on ∙ none_below MAX_EID (has_in content) empty i below)),
  λ within. members-none (has_in content) 0 MAX_EID (λ i from below. false_from_ne_true (has_in content i) (λ on. true≢false (sym (within i (omega (arith, below)) on)))),
)
