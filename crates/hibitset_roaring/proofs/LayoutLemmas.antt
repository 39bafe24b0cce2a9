-- Where the containers of a stream lie.
use Rattle.std.proofs.Common.{◌≡◌, ℕ, zero, suc, ◌+◌, ◌<◌, ◌≤◌, List, length, refl, sym, ap, ◌∙◌, add-one, arith, inl, inr}
use Rattle.std.proofs.lemmas.Bool.{cases_lt}
use Rattle.hibitset_roaring.specs.Format.{container_count, first_at, container_at, size, IsStream}

pub at_first : (bytes : List ℕ) → container_at bytes 0 ≡ first_at bytes
unfolding container_at
at_first bytes = refl

pub at_next : (bytes : List ℕ) (k : ℕ) → container_at bytes (k + 1) ≡ container_at bytes k + size bytes k (container_at bytes k)
unfolding container_at
at_next bytes k = rw add-one refl

-- A container begins behind those before it.
pub at_mono : (bytes : List ℕ) (m n : ℕ) → m ≤ n → container_at bytes m ≤ container_at bytes n
at_mono bytes m zero below = let e : m ≡ 0 = omega arith in rw e (omega arith)
at_mono bytes m (suc n) below = elim (cases_lt n m) [
  | inl above ↦ (let e : m ≡ suc n = omega arith in rw e (omega arith))
  | inr upto ↦ (let h = at_mono bytes m n upto in let next : container_at bytes (suc n) ≡ container_at bytes n + size bytes n (container_at bytes n) = rw (← add-one) (at_next bytes n) in omega (arith, h, next))
]

-- All of a container lies within a stream.
pub at_within : (bytes : List ℕ) (k : ℕ) → IsStream bytes → k < container_count bytes → container_at bytes (k + 1) ≤ length bytes
at_within bytes k stream below = let h = at_mono bytes (k + 1) (container_count bytes) (omega (arith, below)) in let w = stream.whole in omega (arith, h, w)

pub first_within : (bytes : List ℕ) → IsStream bytes → first_at bytes ≤ length bytes
first_within bytes stream = let h = at_mono bytes 0 (container_count bytes) (omega arith) in let w = stream.whole in let f = at_first bytes in omega (arith, h, w, f)

module _ (bytes : List ℕ) (k at : ℕ) (is : at ≡ container_at bytes k) where
  pub next_at : container_at bytes (k + 1) ≡ at + size bytes k at
  next_at = at_next bytes k ∙ ap (λ a. a + size bytes k a) (sym is)
