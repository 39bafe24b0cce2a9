-- One group of a chunk as a set of indices below 4,096.
use Rattle.std.specs.Prelude.{slice_get, true, false, Option, ◌≡◌, ◌≢◌, ℕ, zero, suc, ◌+◌, ◌*◌, ◌/◌, ◌%◌, ◌<◌, ◌==◌, Bool, nat_lt, if◌then◌else◌, refl}
use Rattle.std.specs.Int.{bit_at}
use Rattle.std.proofs.Common.{arith, inl, inr}
use Rattle.std.proofs.lemmas.Bool.{cases_lt}
use Rattle.std.proofs.lemmas.Nat.Bits.{bit_at-lt}
use Rattle.hibitset_base.specs.Decisions.{eq_other, same_or_not}
use Rattle.hibitset_base.specs.Sets.{IsLawful, bit_of}
use Rattle.hibitset_base.specs.Words.{holds_at}
use Rattle.hibitset_base.specs.declared.util.TheConstants.{LAYERS}
use Rattle.hibitset_sparse.specs.Decisions.{lt_no, lt_yes}
use Rattle.hibitset_sparse.specs.Chunk.{or_zero}
use Rattle.hibitset_sparse.specs.Rank.{bit_is_set, value_from}
use Rattle.hibitset_sparse.specs.Parts.{item_from}
use Rattle.hibitset_sparse.specs.declared.group_view.GroupView.{GroupView}

-- the word of a layer at a position; above layer 1 the first bit is always set
abbrev pub view_word : GroupView → ℕ → ℕ → ℕ
view_word view zero p = if nat_lt p 64 then or_zero (item_from view.items.now view.start view.word p) else 0
view_word view (suc zero) p = if p == 0 then view.word else 0
view_word view (suc (suc l)) p = if p == 0 then 1 else 0

-- the index is there
abbrev pub view_has : GroupView → ℕ → Bool
view_has view = holds_at (view_word view)

bit_tested : (w b : ℕ) → bit_at w b ≡ bit_of (bit_at w b == 1)
bit_tested w b = by (bit_at w b) (bit_at-lt w b)
  where
    by : (x : ℕ) → x < 2 → x ≡ bit_of (x == 1)
    by zero below = refl
    by (suc zero) below = refl
    by (suc (suc x)) below = absurd (omega arith)

none_past : (w p : ℕ) → p ≢ 0 → (if p == 0 then w else 0) ≡ 0
none_past w p other = rw (eq_other p 0 other) refl

one_bit : bit_at 1 0 ≡ 1
one_bit = refl

one_from : (w b : ℕ) (value : ℕ → Option ℕ) → 0 < or_zero (value_from value w b) → bit_at w b ≡ 1
one_from w b value some = elim (cases_lt (bit_at w b) 1) [
  | inl none ↦ absurd (
      let off : bit_is_set w b ≡ false = eq_other (bit_at w b) 1 (λ on. absurd (omega arith)) in
      let zero_word : or_zero (value_from value w b) ≡ 0 = rw off refl in
      omega (arith, some, zero_word))
  | inr on ↦ (let small = bit_at-lt w b in omega (arith, small, on))
]

module _ (view : GroupView) where
  over_word : (p : ℕ) → 0 < view_word view 0 p → bit_at (view_word view 1 (p / 64)) (p % 64) ≡ 1
  over_word p some = elim (cases_lt p 64) [
    | inl low ↦
        let yes : nat_lt p 64 ≡ true = lt_yes p 64 low in
        let here : 0 < or_zero (item_from view.items.now view.start view.word p) = rw yes at some in
        let row : p / 64 ≡ 0 = omega (arith, low) in
        let bit : p % 64 ≡ p = omega (arith, low) in
        rw (row, bit) (one_from view.word p (λ k. slice_get view.items.now (view.start + k)) here)
    | inr past ↦ absurd (let no : nat_lt p 64 ≡ false = lt_no p 64 past in let none : view_word view 0 p ≡ 0 = rw no refl in omega (arith, some, none))
  ]

  over_one : (w p : ℕ) → 0 < (if p == 0 then w else 0) → bit_at (if p / 64 == 0 then 1 else 0) (p % 64) ≡ 1
  over_one w p some = elim (same_or_not p 0) [
    | inl first ↦ rw first one_bit
    | inr other ↦ absurd (let none = none_past w p other in omega (arith, some, none))
  ]

  over : (l p : ℕ) → 0 < view_word view l p → bit_at (view_word view (l + 1) (p / 64)) (p % 64) ≡ 1
  over zero p some = over_word p some
  over (suc zero) p some = over_one view.word p some
  over (suc (suc l)) p some = let e : suc (suc l) + 1 ≡ suc (suc (suc l)) = omega arith in rw e (over_one 1 p some)

  -- the words are those of a set that has these members
  pub view_lawful : IsLawful LAYERS (view_has view) (view_word view)
  view_lawful = record {
    members = λ p b within small.
        let q-is : (64 * p + b) / 64 ≡ p = omega arith in
        let b-is : (64 * p + b) % 64 ≡ b = omega arith in
        rw (q-is, b-is) (bit_tested (view_word view 0 p) b);
    summaries = λ l p below within some. over l p some;
  }
