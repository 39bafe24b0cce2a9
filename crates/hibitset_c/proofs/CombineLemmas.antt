-- A set made of two has the members of the connective at every number, and no word past the last of them.
use Rattle.std.proofs.Common.{◌≡◌, ℕ, ◌+◌, ◌*◌, ◌/◌, ◌%◌, ◌≤◌, Bool, true, false, ◌==◌, ◌&&◌, ◌||◌, not, nat_lt, refl, sym, ap, ◌∙◌, get_or, arith}
use Rattle.std.specs.Int.{bit_at}
use Rattle.std.specs.Prelude.{bit_and, bit_or}
use Rattle.std.proofs.lemmas.Bool.{false_from_ne_true}
use Rattle.std.proofs.lemmas.Bool.Decides.{nat_tests}
use Rattle.std.proofs.lemmas.List.{get_or_past}
use Rattle.std.proofs.lemmas.Nat.{and_le_l, or_lt, xor_lt}
use Rattle.std.proofs.lemmas.Nat.Bits.{bit_at-zero, same_from_bits_below}
use Rattle.hibitset_base.specs.Connectives.{is_member, IsDifference, IsSymmetricDifference, IsIntersection, IsUnion}
use Rattle.hibitset_base.specs.Sets.{IsLawful, bit_of}
use Rattle.hibitset_base.specs.Virtual.{differ, xor_word, not_word, and_lawful, or_lawful, xor_lawful, not_lawful}
use Rattle.hibitset_base.specs.declared.util.TheConstants.{LAYERS, MAX_EID}
use Rattle.hibitset.specs.Extension.{MembersEndBy}
use Rattle.hibitset.specs.Merge.{AreWords, NoWordsFrom}
use Rattle.hibitset_c.specs.LentSet.{has, word_of, has_is_lawful}
use Rattle.hibitset_c.specs.declared.lent_set.LentSet.{LentSet}
use Rattle.hibitset_c.proofs.NoMemberLemmas.{bit_of_none}

-- from the bound of all indices on a set that C lends has no member
past : (set : LentSet) (i : ℕ) → MAX_EID ≤ i → has set i ≡ false
unfolding has word_of
past set i from =
    let short = set.short in
    ap (λ w. bit_at w (i % 64) == 1) (get_or_past set.layer0.now (i / 64) 0 (omega (arith, short, from))) ∙ bit_of_none (i % 64)

second : (b c : Bool) → (b ≡ false → c ≡ false) → (b && c) ≡ c
second true c h = refl
second false c h = sym (h refl)

-- a member is what is a number of a set that has none past the bound
pub every : (p : ℕ → Bool) → ((i : ℕ) → MAX_EID ≤ i → p i ≡ false) → (i : ℕ) → is_member p i ≡ p i
every p none i = second (nat_lt i MAX_EID) (p i) (λ off. none i (grind (arith, nat_tests)))

-- the words past all members are 0
pub no_words_past : (holds : ℕ → Bool) (w : ℕ → ℕ → ℕ) (new : ℕ → Bool) (end : ℕ) → IsLawful LAYERS holds w → AreWords (w 0) → ((i : ℕ) → new i ≡ holds i) → MembersEndBy new end → NoWordsFrom w end
no_words_past holds w new end lawful fits same ends p range after =
    same_from_bits_below 64 (w 0 p) 0 (fits p) (omega arith) (λ b small.
    lawful.members p b range small
    ∙ (ap bit_of (false_from_ne_true (holds (64 * p + b)) (λ on. let h = ends (64 * p + b) (same (64 * p + b) ∙ on) in omega (arith, h, after, small)))
    ∙ sym (bit_at-zero b)))

module _ (a b : LentSet) (new : ℕ → Bool) where
  pub and_members : ((i : ℕ) → new i ≡ is_member (λ i. has a i && has b i) i) → IsIntersection (has a) (has b) new
  and_members same i = same i ∙ every (λ i. has a i && has b i) (λ i from. rw (past a i from) refl) i

  pub or_members : ((i : ℕ) → new i ≡ is_member (λ i. has a i || has b i) i) → IsUnion (has a) (has b) new
  or_members same i = same i ∙ every (λ i. has a i || has b i) (λ i from. rw (past a i from, past b i from) refl) i

  pub xor_members : ((i : ℕ) → new i ≡ is_member (λ i. differ (has a i) (has b i)) i) → IsSymmetricDifference (has a) (has b) new
  xor_members same i = same i ∙ every (λ i. differ (has a i) (has b i)) (λ i from. rw (past a i from, past b i from) refl) i

  pub andnot_members : ((i : ℕ) → new i ≡ is_member (λ i. has a i && not (has b i)) i) → IsDifference (has a) (has b) new
  andnot_members same i = same i ∙ every (λ i. has a i && not (has b i)) (λ i from. rw (past a i from) refl) i

  module _ (first : AreWords (λ p. get_or a.layer0.now p 0)) (second : AreWords (λ p. get_or b.layer0.now p 0)) (end : ℕ) (ends : MembersEndBy new end) where
    fits_a : AreWords (word_of a 0)
    unfolding word_of
    fits_a p = first p

    fits_b : AreWords (word_of b 0)
    unfolding word_of
    fits_b p = second p

    pub and_ends : IsIntersection (has a) (has b) new → NoWordsFrom (λ l p. bit_and (word_of a l p) (word_of b l p)) end
    and_ends same =
        no_words_past (λ i. has a i && has b i) (λ l p. bit_and (word_of a l p) (word_of b l p)) new end (and_lawful LAYERS (has_is_lawful a) (has_is_lawful b))
        (λ p. let few = and_le_l (word_of a 0 p) (word_of b 0 p) in let fits = fits_a p in omega (arith, few, fits)) same ends

    pub or_ends : IsUnion (has a) (has b) new → NoWordsFrom (λ l p. bit_or (word_of a l p) (word_of b l p)) end
    or_ends same =
        no_words_past (λ i. has a i || has b i) (λ l p. bit_or (word_of a l p) (word_of b l p)) new end (or_lawful LAYERS (has_is_lawful a) (has_is_lawful b))
        (λ p. or_lt 64 (word_of a 0 p) (word_of b 0 p) (fits_a p) (fits_b p)) same ends

    pub xor_ends : IsSymmetricDifference (has a) (has b) new → NoWordsFrom (xor_word (word_of a) (word_of b)) end
    xor_ends same =
        no_words_past (λ i. differ (has a i) (has b i)) (xor_word (word_of a) (word_of b)) new end (xor_lawful LAYERS (has_is_lawful a) (has_is_lawful b))
        (λ p. xor_lt 64 (word_of a 0 p) (word_of b 0 p) (fits_a p) (fits_b p)) same ends

    pub andnot_ends : IsDifference (has a) (has b) new → NoWordsFrom (λ l p. bit_and (word_of a l p) (not_word (word_of b) l p)) end
    andnot_ends same =
        no_words_past (λ i. has a i && not (has b i)) (λ l p. bit_and (word_of a l p) (not_word (word_of b) l p)) new end (and_lawful LAYERS (has_is_lawful a) (not_lawful LAYERS (has_is_lawful b)))
        (λ p. let few = and_le_l (word_of a 0 p) (not_word (word_of b) 0 p) in let fits = fits_a p in omega (arith, few, fits)) same ends
