-- A set without a member, which adds none to another; and that a set without a word has none.
use Rattle.std.proofs.Common.{◌≡◌, ℕ, ◌/◌, ◌%◌, Bool, true, false, ◌==◌, ◌&&◌, ◌||◌, [], nat_lt, refl, sym, ap, ◌∙◌, arith}
use Rattle.std.specs.Int.{bit_at}
use Rattle.std.proofs.lemmas.Bool.Decides.{nat_tests}
use Rattle.hibitset_base.specs.Connectives.{is_member, IsSymmetricDifference, IsUnion}
use Rattle.hibitset_base.specs.Members.{members_below}
use Rattle.hibitset_base.specs.Virtual.{differ}
use Rattle.hibitset_base.specs.declared.util.TheConstants.{MAX_EID}
use Rattle.hibitset_base.proofs.FirstLemmas.{none_below}
use Rattle.hibitset_base.proofs.MemberLemmas.{members-none}
use Rattle.hibitset.specs.Merge.{NoWordsFrom}
use Rattle.hibitset_c.specs.LentSet.{has, word_of}
use Rattle.hibitset_c.specs.declared.lent_set.LentSet.{LentSet}

neither : (b c : Bool) → (b ≡ true → c ≡ false) → (b && c) ≡ false
neither true c h = h refl
neither false c h = refl

same_or : (b c : Bool) → c ≡ false → b ≡ (b || c)
same_or true c h = refl
same_or false c h = sym h

same_differ : (b c : Bool) → c ≡ false → b ≡ differ b c
same_differ true c h = rw h refl
same_differ false c h = rw h refl

module _ (old other : ℕ → Bool) (none : members_below MAX_EID other ≡ []) where
  no_member : (i : ℕ) → is_member other i ≡ false
  no_member i = neither (nat_lt i MAX_EID) (other i) (λ below. none_below MAX_EID other none i (grind (arith, nat_tests)))

  pub or_stays : IsUnion old (is_member other) old
  or_stays i = same_or (old i) (is_member other i) (no_member i)

  pub xor_stays : IsSymmetricDifference old (is_member other) old
  xor_stays i = same_differ (old i) (is_member other i) (no_member i)

-- a word that is 0 has no bit
pub bit_of_none : (b : ℕ) → (bit_at 0 b == 1) ≡ false
bit_of_none b = grind (arith, nat_tests)

pub no_words : (set : LentSet) → NoWordsFrom (word_of set) 0 → members_below MAX_EID (has set) ≡ []
unfolding has
no_words set none = members-none (has set) 0 MAX_EID (λ i from below.
    ap (λ w. bit_at w (i % 64) == 1) (none (i / 64) (omega arith) (omega arith)) ∙ bit_of_none (i % 64))
