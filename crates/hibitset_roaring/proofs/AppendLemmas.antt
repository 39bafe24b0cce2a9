-- Bytes that were put behind others.
use Rattle.std.proofs.Common.{◌≡◌, ℕ, ◌<◌, ◌≤◌, ◌++◌, Bool, List, take, drop, get_or, length, sym, ap, ◌∙◌, arith}
use Rattle.std.proofs.Math.Seq.{take-append_seam}
use Rattle.std.proofs.lemmas.List.{take-append-drop, length-take-le, get_or-take}
use Rattle.std.proofs.lemmas.Grind.{same_number_lists}
use Rattle.hibitset_roaring.specs.Format.{Appends, IsPlainStream, IsCanonicalStream}

-- a stream of the same members, said otherwise
pub plain_same : (p q : ℕ → Bool) (bytes : List ℕ) → ((i : ℕ) → q i ≡ p i) → IsPlainStream p bytes → IsPlainStream q bytes
plain_same p q bytes same plain = record { are = plain.are; stream = plain.stream; plain = plain.plain; members = λ i. plain.members i ∙ sym (same i) }

-- the one stream
pub canonical_same : (p q : ℕ → Bool) (bytes : List ℕ) → ((i : ℕ) → q i ≡ p i) → IsCanonicalStream p bytes → IsCanonicalStream q bytes
canonical_same p q bytes same canonical = record {
  plain = plain_same p q bytes same canonical.plain;
  only = λ other is. canonical.only other (plain_same q p other (λ i. sym (same i)) is);
}

pub appends_from : (P : List ℕ → Type 0) (old new : List ℕ) (from : ℕ) → from ≡ length old → from ≤ length new → ((k : ℕ) → k < from → get_or new k 0 ≡ get_or old k 0) → P (drop from new) → Appends P old new
appends_from P old new from is long same behind = record {
  bytes = drop from new;
  is =
      let n = length-take-le from new long in
      let front : take from new ≡ old = same_number_lists (take from new) old (n ∙ is) (λ k below. (let b : k < from = omega (arith, below, n) in get_or-take from new k 0 b ∙ same k b)) in
      sym (take-append-drop from new) ∙ ap (λ xs. xs ++ drop from new) front;
  appended = behind;
}

-- what was put behind has another property too
pub appends_same : (P Q : List ℕ → Type 0) (old new : List ℕ) → ((bytes : List ℕ) → P bytes → Q bytes) → Appends P old new → Appends Q old new
appends_same P Q old new same appends = record { bytes = appends.bytes; is = appends.is; appended = same appends.bytes appends.appended }

-- a list of which all is kept
pub take_whole : (xs ys : List ℕ) (n : ℕ) → n ≡ length xs → take n (xs ++ ys) ≡ xs
take_whole xs ys n is = ap (λ m. take m (xs ++ ys)) is ∙ take-append_seam xs ys
