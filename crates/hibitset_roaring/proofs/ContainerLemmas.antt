-- What a container has, by its kind.
use Rattle.std.proofs.Common.{◌≡◌, ℕ, ◌+◌, ◌*◌, ◌<◌, ◌≤◌, true, false, List, sym, ap, ◌∙◌, inl, inr}
use Rattle.std.specs.Prelude.{nat_le}
use Rattle.std.proofs.lemmas.Bool.{cond-true, cond-false, le-leb, lt-leb, cases_lt}
use Rattle.hibitset_roaring.specs.Format.{run_count, in_runs, in_array, in_bits, cardinality_of, is_run, size, container_at, in_container}
use Rattle.hibitset_roaring.proofs.LayoutLemmas.{at_next}

-- the sizes of containers by their kinds
module _ (bytes : List ℕ) (k at : ℕ) where
  pub size_runs : is_run bytes k ≡ true → size bytes k at ≡ 2 + 4 * run_count bytes at
  unfolding size
  size_runs kind = cond-true (is_run bytes k) _ _ kind

  pub size_flat : is_run bytes k ≡ false → (n : ℕ) → (cardinality_of bytes k ≤ 4096 → n ≡ 2 * cardinality_of bytes k) → (4096 < cardinality_of bytes k → n ≡ 8192) → n ≡ size bytes k at
  unfolding size
  size_flat kind n small large = elim (cases_lt 4096 (cardinality_of bytes k)) [
    | inl more ↦ large more ∙ sym (cond-false (is_run bytes k) _ _ kind ∙ cond-false (nat_le (cardinality_of bytes k) 4096) _ _ (lt-leb _ _ more))
    | inr few ↦ small few ∙ sym (cond-false (is_run bytes k) _ _ kind ∙ cond-true (nat_le (cardinality_of bytes k) 4096) _ _ (le-leb _ _ few))
  ]

module _ (bytes : List ℕ) (k : ℕ) where
  module _ (kind : is_run bytes k ≡ true) where
    pub at_runs : container_at bytes (k + 1) ≡ container_at bytes k + (2 + 4 * run_count bytes (container_at bytes k))
    unfolding size
    at_runs = at_next bytes k ∙ ap (λ n. container_at bytes k + n) (cond-true (is_run bytes k) _ _ kind)

    pub in_runs_is : (low : ℕ) → in_runs bytes (container_at bytes k) low ≡ in_container bytes k low
    unfolding in_container
    in_runs_is low = sym (cond-true (is_run bytes k) _ _ kind)

  module _ (kind : is_run bytes k ≡ false) where
    module _ (small : cardinality_of bytes k ≤ 4096) where
      pub at_array : container_at bytes (k + 1) ≡ container_at bytes k + 2 * cardinality_of bytes k
      unfolding size
      at_array = at_next bytes k ∙ ap (λ n. container_at bytes k + n) (cond-false (is_run bytes k) _ _ kind ∙ cond-true (nat_le (cardinality_of bytes k) 4096) _ _ (le-leb _ _ small))

      pub in_array_is : (low : ℕ) → in_array bytes (container_at bytes k) (cardinality_of bytes k) low ≡ in_container bytes k low
      unfolding in_container
      in_array_is low = sym (cond-false (is_run bytes k) _ _ kind ∙ cond-true (nat_le (cardinality_of bytes k) 4096) _ _ (le-leb _ _ small))

    module _ (large : 4096 < cardinality_of bytes k) where
      pub at_bits : container_at bytes (k + 1) ≡ container_at bytes k + 8192
      unfolding size
      at_bits = at_next bytes k ∙ ap (λ n. container_at bytes k + n) (cond-false (is_run bytes k) _ _ kind ∙ cond-false (nat_le (cardinality_of bytes k) 4096) _ _ (lt-leb _ _ large))

      pub in_bits_is : (low : ℕ) → in_bits bytes (container_at bytes k) low ≡ in_container bytes k low
      unfolding in_container
      in_bits_is low = sym (cond-false (is_run bytes k) _ _ kind ∙ cond-false (nat_le (cardinality_of bytes k) 4096) _ _ (lt-leb _ _ large))
