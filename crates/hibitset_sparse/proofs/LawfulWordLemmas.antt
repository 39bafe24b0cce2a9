-- The words of a chunk in any lawful set.
use Rattle.hibitset_base.proofs.MembershipLemmas.{bit_test}
use Rattle.std.proofs.Common.{sym, ◌∙◌, ◌≡◌, ℕ, ◌+◌, ◌-◌, ◌*◌, ◌/◌, ◌%◌, ◌^◌, ◌<◌, ◌==◌, Bool, ap, arith, inl, inr}
use Rattle.std.specs.Int.{bit_at}
use Rattle.std.proofs.lemmas.Bool.{cases_lt}
use Rattle.std.proofs.lemmas.Nat.Bits.{bit_at-zero}
use Rattle.hibitset_base.specs.Sets.{IsLawful}
use Rattle.hibitset_base.specs.declared.util.TheConstants.{LAYERS}
use Rattle.hibitset_sparse.specs.Rank.{bit_is_set}

module _ (holds : ℕ → Bool) (word : ℕ → ℕ → ℕ) (lawful : IsLawful LAYERS holds word) where
  -- under a clear bit lies a word that is 0
  under-clear : (l p : ℕ) → l + 1 < LAYERS → p < 64 ^ (LAYERS - 1 - l) → bit_at (word (l + 1) (p / 64)) (p % 64) ≡ 0 → word l p ≡ 0
  under-clear l p below within off = elim (cases_lt 0 (word l p)) [
    | inl some ↦ absurd (let on = lawful.summaries l p below within some in omega (arith, on, off))
    | inr none ↦ omega (arith, none)
  ]

  pub clear-in_group : (position b : ℕ) → position < 262144 → b < 64 → bit_at (word 1 position) b ≡ 0 → word 0 (64 * position + b) ≡ 0
  clear-in_group position b small low off =
      let row : (64 * position + b) / 64 ≡ position = omega (arith, low) in
      let bit : (64 * position + b) % 64 ≡ b = omega (arith, low) in
      let clear : bit_at (word 1 ((64 * position + b) / 64)) ((64 * position + b) % 64) ≡ 0 = rw (row, bit) off in
      under-clear 0 (64 * position + b) (omega arith) (omega (arith, small, low)) clear

  pub clear-in_chunk : (c p : ℕ) → c < 4096 → p < 4096 → bit_at (word 2 c) (p / 64) ≡ 0 → word 0 (4096 * c + p) ≡ 0
  clear-in_chunk c p small low off =
      let position : ℕ = 64 * c + p / 64 in
      let row : position / 64 ≡ c = omega (arith, low) in
      let bit : position % 64 ≡ p / 64 = omega (arith, low) in
      let over : bit_at (word 2 (position / 64)) (position % 64) ≡ 0 = rw (row, bit) off in
      let none : word 1 position ≡ 0 = under-clear 1 position (omega arith) (omega (arith, small, low)) over in
      let here : 64 * position + p % 64 ≡ 4096 * c + p = omega arith in
      rw here at (clear-in_group position (p % 64) (omega (arith, small, low)) (omega arith) (ap (λ w. bit_at w (p % 64)) none ∙ bit_at-zero (p % 64)))

  -- the bits of a word are members
  pub holds-by_word : (p b : ℕ) → p < 16777216 → b < 64 → bit_is_set (word 0 p) b ≡ holds (64 * p + b)
  holds-by_word p b low small = ap (λ x. x == 1) (lawful.members p b (omega (arith, low)) small) ∙ bit_test (holds (64 * p + b))

  -- a chunk has no members under a clear bit
  pub holds-clear : (c p b : ℕ) → c < 4096 → p < 4096 → b < 64 → bit_at (word 2 c) (p / 64) ≡ 0 → bit_is_set 0 b ≡ holds (64 * (4096 * c + p) + b)
  holds-clear c p b small low few off =
      ap (λ w. bit_is_set w b) (sym (clear-in_chunk c p small low off)) ∙ holds-by_word (4096 * c + p) b (omega (arith, small, low)) few
