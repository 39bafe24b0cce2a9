-- The words of a set that C lends, as a stream is written of them; and the members of a sparse set.
use Rattle.std.proofs.Common.{◌≡◌, ℕ, ◌+◌, ◌*◌, ◌/◌, ◌%◌, ◌<◌, List, length, get_or, subst, sym, ap, ◌∙◌, refl, lit<, arith}
use Rattle.hibitset_base.specs.Connectives.{is_member}
use Rattle.hibitset.specs.WordBits.{stands_in}
use Rattle.hibitset_roaring.specs.Format.{IsCanonicalStream, IsPlainStream}
use Rattle.hibitset_roaring.specs.Words.{AreSummaries}
use Rattle.hibitset_roaring.proofs.AppendLemmas.{canonical_same, plain_same}
use Rattle.hibitset_sparse.specs.SparseBitSet.{has as sparse_has}
use Rattle.hibitset_sparse.specs.declared.set.SparseBitSet.{SparseBitSet}
use Rattle.hibitset_c.specs.LentSet.{has, word_of}
use Rattle.hibitset_c.specs.declared.lent_set.LentSet.{LentSet}
use Rattle.hibitset_c.proofs.SparseLemmas.{sparse_members}

module _ (set : LentSet) where
  same_members : (i : ℕ) → has set i ≡ stands_in set.layer0.now i
  unfolding has word_of
  same_members i = refl

  pub seen_summaries : AreSummaries set.layer0.now set.layer1.now
  seen_summaries = record {
    bits = λ p some.
        let e : p ≡ 64 * (p / 64) + p % 64 = omega arith in
        (set.summed.summed 0 (p / 64) (p % 64) (lit< tt) (omega arith)).1 (subst (λ q. 0 < get_or set.layer0.now q 0) e some);
  }

  -- a stream of the set is one of its words
  pub plain_of_words : (bytes : List ℕ) → IsPlainStream (has set) bytes → IsPlainStream (stands_in set.layer0.now) bytes
  plain_of_words bytes is = record { are = is.are; stream = is.stream; plain = is.plain; members = λ i. is.members i ∙ same_members i }

  -- and the other way round
  pub canonical_of_set : (bytes : List ℕ) → IsCanonicalStream (stands_in set.layer0.now) bytes → IsCanonicalStream (has set) bytes
  canonical_of_set bytes = canonical_same (stands_in set.layer0.now) (has set) bytes same_members

module _ (set : SparseBitSet) where
  -- a stream of a sparse set is one of its members below the bound of all indices
  pub plain_of_members : (bytes : List ℕ) → IsPlainStream (sparse_has set) bytes → IsPlainStream (is_member (sparse_has set)) bytes
  plain_of_members bytes = plain_same (sparse_has set) (is_member (sparse_has set)) bytes (sparse_members set)

  -- and the other way round
  pub canonical_of_members : (bytes : List ℕ) → IsCanonicalStream (is_member (sparse_has set)) bytes → IsCanonicalStream (sparse_has set) bytes
  canonical_of_members bytes = canonical_same (is_member (sparse_has set)) (sparse_has set) bytes (λ i. sym (sparse_members set i))

  -- streams of one set are as long
  pub same_length : (stream bytes : List ℕ) → IsCanonicalStream (is_member (sparse_has set)) stream → IsPlainStream (sparse_has set) bytes → length bytes ≡ length stream
  same_length stream bytes canonical is = ap length (canonical.only bytes (plain_of_members bytes is))
