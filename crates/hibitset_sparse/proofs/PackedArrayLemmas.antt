-- The values of bits, after one was put in or taken out.
use Rattle.std.proofs.Common.{◌≡◌, ℕ, zero, suc, ◌+◌, ◌<◌, ◌≤◌, ◌==◌, true, false, List, length, Option, Some, None, refl, sym, ◌∙◌, ap, arith, inl, inr}
use Rattle.std.specs.Prelude.{◌≢◌, if◌then◌else◌}
use Rattle.std.specs.Int.{bit_at}
use Rattle.std.specs.Int.RustNames.{count_ones}
use Rattle.std.specs.List.{insert, remove, slice_get}
use Rattle.std.proofs.lemmas.Bool.{cases_lt, cases_Bool, false≢true}
use Rattle.std.proofs.lemmas.Nat.Bits.{bit_at-lt}
use Rattle.hibitset_base.specs.Decisions.{eq_other, eq_same, same_or_not}
use Rattle.hibitset_sparse.specs.Rank.{rank_in, bit_is_set, value_from, IsSetAt}
use Rattle.hibitset_sparse.proofs.RankLemmas.{rank-same, rank-set, rank-before, rank-upto, rank-most, rank-within}
use Rattle.hibitset_sparse.proofs.EditLemmas.{get-insert_below, get-insert_at, get-insert_above, get-remove_below, get-remove_above}

pub set-is-one : (w b : ℕ) → bit_is_set w b ≡ true → bit_at w b ≡ 1
set-is-one w b on = by (bit_at w b) on
  where
    by : (x : ℕ) → (x == 1) ≡ true → x ≡ 1
    by zero on = absurd (false≢true on)
    by (suc zero) on = refl
    by (suc (suc x)) on = absurd (false≢true (sym (eq_other (suc (suc x)) 1 (λ e. absurd (omega arith))) ∙ on))

pub clear-is-zero : (w b : ℕ) → bit_is_set w b ≡ false → bit_at w b ≡ 0
clear-is-zero w b off = by (bit_at w b) (bit_at-lt w b) off
  where
    by : (x : ℕ) → x < 2 → (x == 1) ≡ false → x ≡ 0
    by zero small off = refl
    by (suc zero) small off = absurd (false≢true (sym off ∙ eq_same 1 1 refl))
    by (suc (suc x)) small off = absurd (omega arith)

pub one-is-set : (w b : ℕ) → bit_at w b ≡ 1 → bit_is_set w b ≡ true
one-is-set w b on = eq_same (bit_at w b) 1 on

pub zero-is-clear : (w b : ℕ) → bit_at w b ≡ 0 → bit_is_set w b ≡ false
zero-is-clear w b off = eq_other (bit_at w b) 1 (λ on. absurd (omega arith))

-- which bits are set
pub set-is-set : (v w b : ℕ) → IsSetAt v w b → (c : ℕ) → c < 64 → bit_is_set v c ≡ (if c == b then true else bit_is_set w c)
set-is-set v w b is c small = elim (same_or_not c b) [
  | inl same ↦ rw (eq_same c b same, same) (one-is-set v b is.set)
  | inr other ↦ rw (eq_other c b other) (ap (λ x. x == 1) (is.same c small other))
]

pub unset-is-clear : (v w b : ℕ) → IsSetAt v w b → (c : ℕ) → c < 64 → bit_is_set w c ≡ (if c == b then false else bit_is_set v c)
unset-is-clear v w b is c small = elim (same_or_not c b) [
  | inl same ↦ rw (eq_same c b same, same) (zero-is-clear w b is.clear)
  | inr other ↦ rw (eq_other c b other) (ap (λ x. x == 1) (sym (is.same c small other)))
]

-- the rank of that bit itself
pub rank-is : (v w b : ℕ) → IsSetAt v w b → rank_in v b ≡ rank_in w b
rank-is v w b is = let within = is.within in rank-same v w b (λ j low. is.same j (omega arith) (λ e. absurd (omega arith)))

module _ {T : Type 0} where
  pub value-on : (f : ℕ → Option T) (w b : ℕ) → bit_is_set w b ≡ true → value_from f w b ≡ f (rank_in w b)
  value-on f w b on = rw on refl

  pub value-off : (f : ℕ → Option T) (w b : ℕ) → bit_is_set w b ≡ false → value_from f w b ≡ None
  value-off f w b off = rw off refl

  -- the values of other bits, where those by rank are moved as the ranks are
  pub others : (v w b : ℕ) (f g : ℕ → Option T) → IsSetAt v w b
      → ((k : ℕ) → k < rank_in w b → g k ≡ f k)
      → ((k : ℕ) → rank_in w b ≤ k → g (suc k) ≡ f k)
      → (c : ℕ) → c < 64 → c ≢ b → value_from g v c ≡ value_from f w c
  others v w b f g is below above c small other = elim (cases_Bool (bit_is_set w c)) [
    | inl on ↦
        let bit : bit_at w c ≡ 1 = set-is-one w c on in
        let on_v : bit_is_set v c ≡ true = one-is-set v c (is.same c small other ∙ bit) in
        value-on g v c on_v ∙ (elim (cases_lt c b) [
          | inl before ↦
              let rank : rank_in v c ≡ rank_in w c = rank-same v w c (λ j low. is.same j (omega arith) (λ e. absurd (omega arith))) in
              ap g rank ∙ below (rank_in w c) (rank-before w c b before bit)
          | inr after ↦
              let later : b < c = omega (arith, other, after) in
              let one : rank_in w c + 1 ≡ suc (rank_in w c) = omega arith in
              let rank : rank_in v c ≡ suc (rank_in w c) = rank-set v w b c is.clear is.set is.same later (omega arith) ∙ one in
              ap g rank ∙ above (rank_in w c) (rank-upto w b c after)
        ] ∙ sym (value-on f w c on))
    | inr off ↦
        let bit : bit_at w c ≡ 0 = clear-is-zero w c off in
        let off_v : bit_is_set v c ≡ false = zero-is-clear v c (is.same c small other ∙ bit) in
        value-off g v c off_v ∙ sym (value-off f w c off)
  ]

  -- the values of all bits, where one was put in
  pub values-insert : (v w b : ℕ) (f g : ℕ → Option T) (y : T) → IsSetAt v w b
      → ((k : ℕ) → k < rank_in w b → g k ≡ f k)
      → g (rank_in w b) ≡ Some y
      → ((k : ℕ) → rank_in w b ≤ k → g (suc k) ≡ f k)
      → (c : ℕ) → c < 64 → value_from g v c ≡ (if c == b then Some y else value_from f w c)
  values-insert v w b f g y is below here above c small =
      elim (same_or_not c b) [
        | inl same ↦ rw (eq_same c b same, same) (value-on g v b (one-is-set v b is.set) ∙ (ap g (rank-is v w b is) ∙ here))
        | inr other ↦ rw (eq_other c b other) (others v w b f g is below above c small other)
      ]

  -- and where one was taken out: v is the word before
  pub values-remove : (v w b : ℕ) (f g : ℕ → Option T) → IsSetAt v w b
      → ((k : ℕ) → k < rank_in v b → f k ≡ g k)
      → ((k : ℕ) → rank_in v b ≤ k → f k ≡ g (suc k))
      → (c : ℕ) → c < 64 → value_from f w c ≡ (if c == b then None else value_from g v c)
  values-remove v w b f g is below above c small =
      let rank : rank_in v b ≡ rank_in w b = rank-is v w b is in
      elim (same_or_not c b) [
        | inl same ↦ rw (eq_same c b same, same) (value-off f w b (zero-is-clear w b is.clear))
        | inr other ↦ rw (eq_other c b other)
            (sym (others v w b f g is
            (λ k low. sym (below k (omega (arith, low, rank))))
            (λ k high. sym (above k (omega (arith, high, rank))))
            c small other))
      ]

  -- the same of lists
  pub array-insert : (v w b : ℕ) (xs ys : List T) (y : T) → IsSetAt v w b → length xs ≡ count_ones w → ys ≡ insert xs (rank_in w b) y
      → (c : ℕ) → c < 64 → value_from (slice_get ys) v c ≡ (if c == b then Some y else value_from (slice_get xs) w c)
  array-insert v w b xs ys y is long put =
      let room : rank_in w b ≤ length xs = (let most = rank-most w b in omega (arith, most, long)) in
      values-insert v w b (slice_get xs) (slice_get ys) y is
      (λ k low. ap (λ zs. slice_get zs k) put ∙ get-insert_below xs (rank_in w b) y k low room)
      (ap (λ zs. slice_get zs (rank_in w b)) put ∙ get-insert_at xs (rank_in w b) y room)
      (λ k high. ap (λ zs. slice_get zs (suc k)) put ∙ get-insert_above xs (rank_in w b) y k high room)

  pub array-remove : (v w b : ℕ) (xs ys : List T) → IsSetAt v w b → length ys ≡ count_ones v → xs ≡ remove ys (rank_in v b)
      → (c : ℕ) → c < 64 → value_from (slice_get xs) w c ≡ (if c == b then None else value_from (slice_get ys) v c)
  array-remove v w b xs ys is long cut =
      let room : rank_in v b < length ys = (let most = rank-within v b is.set in omega (arith, most, long)) in
      values-remove v w b (slice_get xs) (slice_get ys) is
      (λ k low. ap (λ zs. slice_get zs k) cut ∙ get-remove_below ys (rank_in v b) k low room)
      (λ k high. ap (λ zs. slice_get zs k) cut ∙ get-remove_above ys (rank_in v b) k high room)
