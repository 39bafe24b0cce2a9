-- The chunks of a set, as they are made one by one.
use Rattle.std.proofs.Common.{◌≡◌, ℕ, ◌+◌, ◌*◌, ◌/◌, ◌%◌, ◌^◌, ◌<◌, Bool, Option, Some, None, refl, sym, ◌∙◌, ap, subst, arith, inl, inr}
use Rattle.std.specs.Prelude.{◌⊎◌, ◌≢◌, ◌==◌, if◌then◌else◌}
use Rattle.std.specs.Int.{bit_at}
use Rattle.std.proofs.lemmas.Option.{none-some, same_Some}
use Rattle.hibitset_base.specs.Decisions.{eq_other, eq_same, same_or_not}
use Rattle.hibitset_base.specs.Sets.{IsLawful}
use Rattle.hibitset_base.specs.WalkFrom.{bit_over}
use Rattle.hibitset_base.specs.Ranks.{start_over}
use Rattle.hibitset_base.specs.declared.util.TheConstants.{LAYERS}
use Rattle.hibitset_base.proofs.FirstLemmas.{none_in}
use Rattle.hibitset_base.proofs.RankLemmas.{none_over}
use Rattle.hibitset_sparse.specs.Replacement.{HasNoneIn, IsChunkOf}
use Rattle.hibitset_sparse.specs.declared.chunk.Chunk.{Chunk}
use Rattle.hibitset_sparse.specs.declared.table.TheConstants.{PLACES_PER_TABLE}

-- Under a clear bit of a layer there is no member.
module _ (p : ℕ → Bool) (word : ℕ → ℕ → ℕ) (lawful : IsLawful LAYERS p word) (c : ℕ) (small : c < PLACES_PER_TABLE) where
  pub none-in_chunk : bit_at (word 3 (c / 64)) (c % 64) ≡ 0 → HasNoneIn p c
  none-in_chunk off i within =
      let first : ℕ = 262144 * c in
      let row : first / 64 ^ 4 ≡ c / 64 = omega arith in
      let here : first / 64 ^ 3 ≡ c = omega arith in
      let clear : bit_over word first 3 ≡ 0 = rw (row, here) off in
      let none = none_over LAYERS p word lawful first (omega arith) 3 1 refl clear in
      none_in p (start_over first 3) (64 ^ 3) none (first + i) (omega arith) (omega arith)

  pub none-in_group : bit_at (word 4 0) (c / 64) ≡ 0 → HasNoneIn p c
  none-in_group off i within =
      let first : ℕ = 262144 * c in
      let top : first / 64 ^ 5 ≡ 0 = omega arith in
      let here : first / 64 ^ 4 % 64 ≡ c / 64 = omega arith in
      let clear : bit_over word first 4 ≡ 0 = rw (top, here) off in
      let none = none_over LAYERS p word lawful first (omega arith) 4 0 refl clear in
      none_in p (start_over first 4) (64 ^ 4) none (first + i) (omega arith) (omega arith)

-- the other groups stay as they are where a chunk was put at place b of group q
pub put-beside : (q b : ℕ) (old new : ℕ → Option Chunk) (chunk : Chunk) → b < 64
    → ((j : ℕ) → j < PLACES_PER_TABLE → new j ≡ (if j == 64 * q + b then Some chunk else old j))
    → (c : ℕ) → c < PLACES_PER_TABLE → c / 64 ≢ q → new c ≡ old c
put-beside q b old new chunk low put c small other = rw (eq_other c (64 * q + b) (λ e. other (omega (arith, e, low)))) at (put c small)

-- What is at place c is the chunk of the first set, or nothing, where the second has none of the chunk's indices.
pub record IsDoneAt (holds touched : ℕ → Bool) (c : ℕ) (made : Option Chunk) : Type 0 where
  pub is : (chunk : Chunk) → made ≡ Some chunk → IsChunkOf holds c chunk
  pub none : made ≡ None → HasNoneIn touched c

-- Of the places of a part, those whose bit is left have no chunk yet, and the others are done.
pub record AreDoneBut (holds touched : ℕ → Bool) (Part : ℕ → Type 0) (left : ℕ → ℕ) (made : ℕ → Option Chunk) : Type 0 where
  pub free : (c : ℕ) → c < PLACES_PER_TABLE → Part c → left c ≡ 1 → made c ≡ None
  pub done : (c : ℕ) → c < PLACES_PER_TABLE → Part c → left c ≡ 0 → IsDoneAt holds touched c (made c)

-- all of a group but those whose bits are left
abbrev pub IsGroupDoneBut : (ℕ → Bool) → (ℕ → Bool) → ℕ → ℕ → (ℕ → Option Chunk) → Type 0
IsGroupDoneBut holds touched q left = AreDoneBut holds touched (λ c. c / 64 ≡ q) (λ c. bit_at left (c % 64))

-- all but the groups whose bits are left
abbrev pub AreGroupsDoneBut : (ℕ → Bool) → (ℕ → Bool) → ℕ → (ℕ → Option Chunk) → Type 0
AreGroupsDoneBut holds touched left = AreDoneBut holds touched (λ c. Unit {0}) (λ c. bit_at left (c / 64))

module _ (holds touched : ℕ → Bool) where
  done-none : (c : ℕ) (made : Option Chunk) → made ≡ None → HasNoneIn touched c → IsDoneAt holds touched c made
  done-none c made empty none = record { is = λ chunk some. absurd (none-some chunk (sym empty ∙ some)); none = λ _. none }

  done-some : (c : ℕ) (made : Option Chunk) (chunk : Chunk) → made ≡ Some chunk → IsChunkOf holds c chunk → IsDoneAt holds touched c made
  done-some c made chunk some is = record {
    is = λ other it. subst (IsChunkOf holds c) (same_Some chunk other (sym some ∙ it)) is;
    none = λ empty. absurd (none-some chunk (sym empty ∙ some));
  }

  -- at first there are no chunks
  pub done-first : (Part : ℕ → Type 0) (left : ℕ → ℕ) (made : ℕ → Option Chunk) → ((c : ℕ) → c < PLACES_PER_TABLE → Part c → made c ≡ None)
      → ((c : ℕ) → c < PLACES_PER_TABLE → Part c → left c ≡ 0 → HasNoneIn touched c) → AreDoneBut holds touched Part left made
  done-first Part left made empty none = record {
    free = λ c small in_part _. empty c small in_part;
    done = λ c small in_part off. done-none c (made c) (empty c small in_part) (none c small in_part off);
  }

  -- each place stays as it was, or is done and no longer left
  done-more : (Part : ℕ → Type 0) (left rest : ℕ → ℕ) (old new : ℕ → Option Chunk)
      → ((c : ℕ) → c < PLACES_PER_TABLE → Part c → ((rest c ≡ left c) × (new c ≡ old c)) ⊎ ((rest c ≡ 0) × IsDoneAt holds touched c (new c)))
      → AreDoneBut holds touched Part left old → AreDoneBut holds touched Part rest new
  done-more Part left rest old new step was = record {
    free = λ c small in_part on. elim (step c small in_part) [
      | inl same ↦ same.1 ∙ was.free c small in_part (sym same.0 ∙ on)
      | inr done ↦ absurd (omega (arith, on, done.0))
    ];
    done = λ c small in_part off. elim (step c small in_part) [
      | inl same ↦ subst (IsDoneAt holds touched c) (sym same.1) (was.done c small in_part (sym same.0 ∙ off))
      | inr done ↦ done.1
    ];
  }

  -- a chunk was put at place b of group q
  pub place-done : (q b left rest : ℕ) (old new : ℕ → Option Chunk) (chunk : Chunk)
      → bit_at rest b ≡ 0 → ((j : ℕ) → j < 64 → j ≢ b → bit_at rest j ≡ bit_at left j) → b < 64
      → ((j : ℕ) → j < PLACES_PER_TABLE → new j ≡ (if j == 64 * q + b then Some chunk else old j)) → IsChunkOf holds (64 * q + b) chunk
      → IsGroupDoneBut holds touched q left old → IsGroupDoneBut holds touched q rest new
  place-done q b left rest old new chunk gone same low put is =
      done-more (λ c. c / 64 ≡ q) (λ c. bit_at left (c % 64)) (λ c. bit_at rest (c % 64)) old new
      (λ c small group. elim (same_or_not c (64 * q + b)) [
        | inl here ↦
            let bit : c % 64 ≡ b = omega (arith, here, low) in
            let some : new c ≡ Some chunk = rw (eq_same c (64 * q + b) here) at (put c small) in
            inr (ap (bit_at rest) bit ∙ gone, done-some c (new c) chunk some (subst (λ k. IsChunkOf holds k chunk) (sym here) is))
        | inr other ↦
            let stays : new c ≡ old c = rw (eq_other c (64 * q + b) other) at (put c small) in
            inl (same (c % 64) (omega arith) (λ bit. other (omega (arith, group, bit))), stays)
      ])
