-- The members of a set lie in its range.
use Rattle.std.proofs.Common.{◌≡◌, ℕ, ◌/◌, ◌<◌, ◌≤◌, Bool, true, false, ◌&&◌, ◌||◌, not, nat_lt, get_or, [], sym, ap, ◌∙◌, inl, inr, arith, lit<}
use Rattle.std.proofs.lemmas.List.{get_or_past}
use Rattle.std.proofs.lemmas.Bool.{cases_lt, false_from_ne_true}
use Rattle.std.proofs.lemmas.Bool.Decides.{nat_tests}
use Rattle.hibitset_base.specs.Connectives.{is_member, IsIntersection, IsUnion, IsSymmetricDifference, IsDifference}
use Rattle.hibitset_base.specs.Virtual.{differ}
use Rattle.hibitset_base.specs.declared.util.TheConstants.{LAYERS, MAX_EID}
use Rattle.hibitset_base.proofs.MembershipLemmas.{member_below}
use Rattle.hibitset.specs.BitSet.{layers, word_of, has, slice_len}
use Rattle.hibitset.specs.declared.set.BitSet.{BitSet}
use Rattle.hibitset.proofs.LayerLemmas.{shaped}

-- a member lies below the bound of all indices
pub has_within : (set : BitSet) (i : ℕ) → has set i ≡ true → i < MAX_EID
unfolding has word_of
has_within set i holds = member_below LAYERS (layers set) (lit< tt) (shaped set.layers) i holds

-- from the bound of all indices on there is no member
pub none_past : (set : BitSet) (i : ℕ) → MAX_EID ≤ i → has set i ≡ false
none_past set i past = false_from_ne_true (has set i) (λ here. let within = has_within set i here in omega arith)

-- a number whose word lies past the slice is no member
pub none_past_slice : (set : BitSet) (i : ℕ) → slice_len set 0 ≤ i / 64 → has set i ≡ false
unfolding has word_of
none_past_slice set i past = rw (get_or_past (get_or (layers set) 0 []) (i / 64) 0 past) (search arith)

member_within : (p : ℕ → Bool) (i : ℕ) → i < MAX_EID → is_member p i ≡ p i
member_within p i within = ap (λ t. t && p i) (let t : nat_lt i MAX_EID ≡ true = grind (arith, nat_tests) in t)

member_past : (p : ℕ → Bool) (i : ℕ) → MAX_EID ≤ i → is_member p i ≡ false
member_past p i past = ap (λ t. t && p i) (let t : nat_lt i MAX_EID ≡ false = grind (arith, nat_tests) in t)

-- each number that a set has is a member
pub has_is_member : (set : BitSet) (i : ℕ) → is_member (has set) i ≡ has set i
has_is_member set i = elim (cases_lt i MAX_EID) [
  | inl within ↦ member_within (has set) i within
  | inr past ↦ member_past (has set) i past ∙ sym (none_past set i past)
]

-- what an assignment says below the range holds at every number
module _ (old new : BitSet) (other : ℕ → Bool) where
  pub and_everywhere : ((i : ℕ) → i < MAX_EID → has new i ≡ (has old i && other i)) → IsIntersection (has old) other (has new)
  and_everywhere below i = elim (cases_lt i MAX_EID) [
    | inl within ↦ below i within
    | inr past ↦ none_past new i past ∙ sym (ap (λ x. x && other i) (none_past old i past))
  ]

  pub difference_everywhere : ((i : ℕ) → i < MAX_EID → has new i ≡ (has old i && not (other i))) → IsDifference (has old) other (has new)
  difference_everywhere below i = elim (cases_lt i MAX_EID) [
    | inl within ↦ below i within
    | inr past ↦ none_past new i past ∙ sym (ap (λ x. x && not (other i)) (none_past old i past))
  ]

  pub or_everywhere : ((i : ℕ) → i < MAX_EID → has new i ≡ (has old i || other i)) → IsUnion (has old) (is_member other) (has new)
  or_everywhere below i = elim (cases_lt i MAX_EID) [
    | inl within ↦ below i within ∙ sym (ap (λ x. has old i || x) (member_within other i within))
    | inr past ↦ none_past new i past ∙ sym (ap (λ x. x || is_member other i) (none_past old i past) ∙ member_past other i past)
  ]

  pub xor_everywhere : ((i : ℕ) → i < MAX_EID → has new i ≡ differ (has old i) (other i)) → IsSymmetricDifference (has old) (is_member other) (has new)
  xor_everywhere below i = elim (cases_lt i MAX_EID) [
    | inl within ↦ below i within ∙ sym (ap (λ x. differ (has old i) x) (member_within other i within))
    | inr past ↦ none_past new i past ∙ sym (ap (λ x. differ x (is_member other i)) (none_past old i past) ∙ member_past other i past)
  ]
