-- Parts of a container that are gone over one by one.
use Rattle.std.proofs.Common.{◌≡◌, ℕ, ◌+◌, ◌-◌, ◌*◌, ◌==◌, ◌||◌, false, List, refl, add-one}
use Rattle.std.specs.Int.RustNames.{count_ones}
use Rattle.hibitset_roaring.specs.Numbers.{u16_at, u64_at, ones_in}
use Rattle.hibitset_roaring.specs.Format.{in_array, run_count, run_first, run_last, run_total}
use Rattle.hibitset_roaring.proofs.TestLemmas.{any_next, any_none}

module _ (bytes : List ℕ) (at : ℕ) where
  pub array_none : (v : ℕ) → in_array bytes at 0 v ≡ false
  unfolding in_array
  array_none v = any_none (λ j. u16_at bytes (at + 2 * j) == v)

  -- an array that is read one number further
  pub array_next : (j v : ℕ) → in_array bytes at (j + 1) v ≡ ((u16_at bytes (at + 2 * j) == v) || in_array bytes at j v)
  unfolding in_array
  array_next j v = any_next j (λ j. u16_at bytes (at + 2 * j) == v)

  pub ones_none : ones_in bytes at 0 ≡ 0
  unfolding ones_in
  ones_none = refl

  pub ones_next : (n : ℕ) → ones_in bytes at (n + 1) ≡ ones_in bytes at n + count_ones (u64_at bytes (at + 8 * n))
  unfolding ones_in
  ones_next n = rw add-one refl

  pub count_is : run_count bytes at ≡ u16_at bytes at
  unfolding run_count
  count_is = refl

  pub first_is : (r : ℕ) → run_first bytes at r ≡ u16_at bytes (at + 2 + 4 * r)
  unfolding run_first
  first_is r = refl

  pub last_is : (r : ℕ) → run_last bytes at r ≡ u16_at bytes (at + 2 + 4 * r) + u16_at bytes (at + 2 + 4 * r + 2)
  unfolding run_first run_last
  last_is r = refl

  pub total_none : run_total bytes at 0 ≡ 0
  unfolding run_total
  total_none = refl

  pub total_next : (n : ℕ) → run_total bytes at (n + 1) ≡ run_total bytes at n + (run_last bytes at n + 1 - run_first bytes at n)
  unfolding run_total
  total_next n = rw add-one refl
