-- What a command on two sets that are kept does is its step.
use Rattle.std.proofs.Common.{◌≡◌, ◌≢◌, ◌↔◌, ℕ, suc, ◌<◌, Bool, true, false, not, ◌||◌, ◌&&◌, ◌==◌, List, [], ◌∷◌, length, get_or, set, refl, sym, ◌∙◌, ap, arith, inl, inr}
use Rattle.std.specs.Bool.{Decides, IsTrue, one_answer}
use Rattle.std.proofs.lemmas.Bool.{cases_lt, true≢false}
use Rattle.std.proofs.lemmas.Bool.Decides.{nat_tests}
use Rattle.std.proofs.lemmas.List.{nil_from_length}
use Rattle.hibitset.specs.declared.set.BitSet.{BitSet}
use Rattle.hibitset.specs.BitSet.{has}
use Rattle.hibitset.proofs.ComparisonLemmas.{same_of_test}
use Rattle.hibitset.proofs.WithinLemmas.{has_is_member}
use Rattle.hibitset.proofs.EqualityLemmas.{same_list}
use Rattle.hibitset_base.specs.Virtual.{differ}
use Rattle.hibitset_base.specs.Connectives.{is_member, IsIntersection, IsUnion, IsSymmetricDifference}
use Rattle.hibitset_base.specs.declared.util.TheConstants.{MAX_EID}
use Rattle.hibitset_base.proofs.MemberLemmas.{members-none}
use Rattle.hibitset_run.specs.declared.script.Slot.{Slot}
use Rattle.hibitset_run.specs.declared.script.Command.TheVariants as command
use Rattle.hibitset_run.specs.Script.{bool, done, no_memory, members_of, has_members, are_same, is_within, sets_of, with_set, slot_number, IsStep}
use Rattle.hibitset.proofs.CallerLemmas.{none_past}
use Rattle.hibitset_run.proofs.KeptSetLemmas.{sets_of-at, sets_of-other, sets_of-alike, sets_of-set, sets_of-put_back, sets_of-put_back_same, with_set-same}

and_itself : (a : Bool) → (a && a) ≡ a
and_itself true = refl
and_itself false = refl

or_itself : (a : Bool) → (a || a) ≡ a
or_itself true = refl
or_itself false = refl

differ_itself : (a : Bool) → differ a a ≡ false
differ_itself true = refl
differ_itself false = refl

or_false : (a : Bool) → (a || false) ≡ a
or_false true = refl
or_false false = refl

differ_false : (a : Bool) → differ a false ≡ a
differ_false true = refl
differ_false false = refl

-- a set whose list of members is empty has none
no_member : (set : BitSet) → members_of (has set) ≡ [] → (i : ℕ) → has set i ≡ false
no_member set empty i = elim (cases_lt i MAX_EID) [
  | inl below ↦ same_list (has set) (λ j. false) 0 MAX_EID (empty ∙ sym (members-none (λ j. false) 0 MAX_EID (λ j from end. refl))) i (omega arith) (omega arith)
  | inr out ↦ none_past set i out
]

-- a test that tells that a set has no members
pub not_empty : (empty : Bool) (set : BitSet) → empty ≡ false → IsTrue empty ↔ (members_of (has set) ≡ []) → has_members (has set) ≡ true
not_empty empty set off tells = elim (cases_lt 0 (length (members_of (has set)))) [
  | inl some ↦ grind (arith, nat_tests)
  | inr none ↦ absurd (true≢false (sym (tells.1 (nil_from_length (members_of (has set)) (omega arith))) ∙ off))
]

-- The two sets are one.
module _ (kept : List BitSet) (slot other : Slot) (one : slot_number other ≡ slot_number slot) where
  theirs : sets_of kept other ≡ sets_of kept slot
  theirs = sets_of-alike kept slot other one

  kept_by : (members : ℕ → Bool) → ((i : ℕ) → members i ≡ sets_of kept slot i) → sets_of kept ≡ with_set (sets_of kept) slot members
  kept_by members same = sym (with_set-same (sets_of kept) slot members same (λ third e. sets_of-alike kept slot third e))

  pub and_one : IsStep (command.And slot other) (sets_of kept) done (sets_of kept)
  and_one = (refl, kept_by _ (λ i. ap (λ f. sets_of kept slot i && f i) theirs ∙ and_itself (sets_of kept slot i)))

  pub or_one : IsStep (command.Or slot other) (sets_of kept) done (sets_of kept)
  or_one = (refl, kept_by _ (λ i. ap (λ f. sets_of kept slot i || f i) theirs ∙ or_itself (sets_of kept slot i)))

  pub xor_one : (d new : BitSet) → length kept ≡ 8 → ((i : ℕ) → has new i ≡ false) → IsStep (command.Xor slot other) (sets_of kept) done (sets_of (set kept (slot_number slot) new))
  xor_one d new long empty =
      (refl, sets_of-set kept slot d long new _ (λ i. empty i ∙ sym (ap (λ f. differ (sets_of kept slot i) (f i)) theirs ∙ differ_itself (sets_of kept slot i))))

-- One set is taken out while the other is merged into it, and put back.
module _ (kept : List BitSet) (slot other : Slot) (d e left new : BitSet) (long : length kept ≡ 8) (apart : slot_number other ≢ slot_number slot) where
  abbrev ours : BitSet
  ours = get_or kept (slot_number slot) d

  abbrev others : BitSet
  others = get_or (set kept (slot_number slot) left) (slot_number other) e

  merged : (f : Bool → Bool → Bool) → ((i : ℕ) → has new i ≡ f (has ours i) (has others i))
      → sets_of (set (set kept (slot_number slot) left) (slot_number slot) new) ≡ with_set (sets_of kept) slot (λ i. f (sets_of kept slot i) (sets_of kept other i))
  merged f members =
      sets_of-put_back kept slot d long left new (λ i. f (sets_of kept slot i) (sets_of kept other i)) (λ i.
      members i
      ∙ sym (ap (λ p. f (p i) (sets_of kept other i)) (sets_of-at kept slot d long) ∙ ap (λ p. f (has ours i) (p i)) (sets_of-other kept slot other e left long apart)))

  pub and_two : IsIntersection (has ours) (has others) (has new) → IsStep (command.And slot other) (sets_of kept) done (sets_of (set (set kept (slot_number slot) left) (slot_number slot) new))
  and_two members = (refl, merged ◌&&◌ members)

  pub or_two : IsUnion (has ours) (is_member (has others)) (has new) → IsStep (command.Or slot other) (sets_of kept) done (sets_of (set (set kept (slot_number slot) left) (slot_number slot) new))
  or_two members = (refl, merged ◌||◌ (λ i. members i ∙ ap (λ x. has ours i || x) (has_is_member others i)))

  pub xor_two : IsSymmetricDifference (has ours) (is_member (has others)) (has new) → IsStep (command.Xor slot other) (sets_of kept) done (sets_of (set (set kept (slot_number slot) left) (slot_number slot) new))
  xor_two members = (refl, merged differ (λ i. members i ∙ ap (λ x. differ (has ours i) x) (has_is_member others i)))

  put_back : ((i : ℕ) → has new i ≡ has ours i) → sets_of (set (set kept (slot_number slot) left) (slot_number slot) new) ≡ sets_of kept
  put_back same = sets_of-put_back_same kept slot d long left new same

  may_lack : has_members (has (get_or kept (slot_number other) e)) ≡ true → (not (slot_number slot == slot_number other) && has_members (sets_of kept other)) ≡ true
  may_lack some =
      let two : (slot_number slot == slot_number other) ≡ false = grind (arith, nat_tests) in
      rw two (ap has_members (sets_of-at kept other e long) ∙ some)

  pub or_refused : has_members (has (get_or kept (slot_number other) e)) ≡ true → ((i : ℕ) → has new i ≡ has ours i)
      → IsStep (command.Or slot other) (sets_of kept) no_memory (sets_of (set (set kept (slot_number slot) left) (slot_number slot) new))
  or_refused some same = (may_lack some, put_back same)

  pub xor_refused : has_members (has (get_or kept (slot_number other) e)) ≡ true → ((i : ℕ) → has new i ≡ has ours i)
      → IsStep (command.Xor slot other) (sets_of kept) no_memory (sets_of (set (set kept (slot_number slot) left) (slot_number slot) new))
  xor_refused some same = (may_lack some, put_back same)

-- The other set has no members.
module _ (kept : List BitSet) (slot other : Slot) (e : BitSet) (long : length kept ≡ 8) (empty : Bool) (on : empty ≡ true)
    (tells : IsTrue empty ↔ (members_of (has (get_or kept (slot_number other) e)) ≡ [])) where
  none : (i : ℕ) → sets_of kept other i ≡ false
  none i = ap (λ f. f i) (sets_of-at kept other e long) ∙ no_member (get_or kept (slot_number other) e) (tells.0 on) i

  nothing_put : (f : Bool → Bool → Bool) → ((a : Bool) → f a false ≡ a) → with_set (sets_of kept) slot (λ i. f (sets_of kept slot i) (sets_of kept other i)) ≡ sets_of kept
  nothing_put f same = with_set-same (sets_of kept) slot _ (λ i. ap (f (sets_of kept slot i)) (none i) ∙ same (sets_of kept slot i)) (λ another e. sets_of-alike kept slot another e)

  pub or_none : IsStep (command.Or slot other) (sets_of kept) done (sets_of kept)
  or_none = (refl, sym (nothing_put ◌||◌ or_false))

  pub xor_none : IsStep (command.Xor slot other) (sets_of kept) done (sets_of kept)
  xor_none = (refl, sym (nothing_put differ differ_false))

-- a length as a test
no_length : (xs : List ℕ) → Decides (length xs == 0) (xs ≡ [])
no_length [] = (λ e. refl, λ e. refl)
no_length (x ∷ xs) =
    (λ e. absurd (let wrong : suc (length xs) ≡ 0 = same_of_test (suc (length xs)) 0 e in omega arith), λ e. absurd (let wrong : suc (length xs) ≡ 0 = ap length e in omega arith))

and_not : (a b : Bool) → (a && not b) ≡ false → a ≡ true → b ≡ true
and_not true true e on = refl
and_not true false e on = sym e
and_not false b e on = absurd (cc)

none_alone : (a b : Bool) → (a ≡ true → b ≡ true) → (a && not b) ≡ false
none_alone true b h = rw (h refl) refl
none_alone false b h = refl

within-Decides : (p q : ℕ → Bool) → Decides (is_within p q) ((i : ℕ) → i < MAX_EID → p i ≡ true → q i ≡ true)
within-Decides p q =
    let alone : ℕ → Bool = λ i. p i && not (q i) in
    let tested = no_length (members_of alone) in (
      λ e i below on. and_not (p i) (q i) (same_list alone (λ j. false) 0 MAX_EID (tested.0 e ∙ sym (members-none (λ j. false) 0 MAX_EID (λ j from end. refl))) i (omega arith) (omega arith)) on,
      λ all. tested.1 (members-none alone 0 MAX_EID (λ i from below. none_alone (p i) (q i) (all i (omega arith)))),
    )

module _ (kept : List BitSet) (slot other : Slot) (d e : BitSet) (long : length kept ≡ 8) where
  abbrev p : ℕ → Bool
  p = has (get_or kept (slot_number slot) d)

  abbrev q : ℕ → Bool
  q = has (get_or kept (slot_number other) e)

  -- a test of the two sets
  tested : (test : (ℕ → Bool) → (ℕ → Bool) → Bool) → test p q ≡ test (sets_of kept slot) (sets_of kept other)
  tested test = sym (ap (λ f. test f (sets_of kept other)) (sets_of-at kept slot d long) ∙ ap (λ f. test p f) (sets_of-at kept other e long))

  pub compared : (same : Bool) → same ≡ are_same p q → IsStep (command.Same slot other) (sets_of kept) (bool same) (sets_of kept)
  compared same is = (ap bool (is ∙ tested are_same), refl)

  pub contained : (within : Bool) → Decides within ((i : ℕ) → i < MAX_EID → p i ≡ true → q i ≡ true) → IsStep (command.Within slot other) (sets_of kept) (bool within) (sets_of kept)
  contained within is = (ap bool (one_answer within (is_within p q) is (within-Decides p q) ∙ tested is_within), refl)
