-- How long a stream can be whose keys lie below a bound, so why a reader's bytes are none.
use Rattle.std.proofs.Common.{◌≡◌, ℕ, zero, suc, ◌+◌, ◌*◌, ◌<◌, ◌≤◌, List, length, refl, add-one, arith, inl, inr}
use Rattle.std.specs.Prelude.{nat_le, None, Some, IfSome}
use Rattle.std.specs.declared.option.Option.{Option}
use Rattle.std.proofs.lemmas.Bool.{cases_Bool, cond_both, leb-true}
use Rattle.hibitset_roaring.specs.Format.{container_count, keys_at, has_offsets, offsets_at, first_at, key_of, cardinality_of, is_run, has_runs, run_count, run_last, run_first, size, container_at, AreRuns, IsContainer, IsStream, HasKeysBelow}
use Rattle.hibitset_roaring.specs.Transfers.{longest_below, IsOutside, IsInputReason}
use Rattle.hibitset_roaring.specs.declared.error.ReadFromError.{ReadFromError}
use Rattle.hibitset_roaring.specs.declared.error.ReadFromError.TheVariants as from
use Rattle.hibitset_roaring.proofs.HeaderLemmas.{keys_with, keys_without, offsets_at_is}
use Rattle.hibitset_roaring.proofs.LayoutLemmas.{at_first, at_next}

module _ (bytes : List ℕ) where
  -- Keys ascend, so key k is no less than k.
  key_above : IsStream bytes → (k : ℕ) → k < container_count bytes → k ≤ key_of bytes k
  key_above stream zero below = omega arith
  key_above stream (suc k) below =
      let here : k + 1 < container_count bytes = omega (arith, below) in
      let h = key_above stream k (omega (arith, below)) in
      let a = stream.ascending k here in
      let next : k < key_of bytes (suc k) = rw (← add-one) (omega (arith, h, a)) in
      omega (arith, next)

  -- So there are no more containers than keys below the bound.
  counted_below : (end n : ℕ) → n ≡ container_count bytes → IsStream bytes → HasKeysBelow bytes end → n ≤ end
  counted_below end zero is stream below = omega arith
  counted_below end (suc n) is stream below =
      let here : n < container_count bytes = omega (arith, is) in
      let above = key_above stream n here in
      let under = below.keys n here in
      omega (arith, above, under)

  -- where the keys begin, and the containers
  keys_most : keys_at bytes ≤ 8 + container_count bytes
  keys_most = elim (cases_Bool (has_runs bytes)) [
    | inl on ↦ (let k = keys_with bytes on in omega (arith, k))
    | inr off ↦ (let k = keys_without bytes off in omega (arith, k))
  ]

  first_most : first_at bytes ≤ 8 + 9 * container_count bytes
  unfolding first_at
  first_most =
      let k = keys_most in
      let o = offsets_at_is bytes in
      cond_both (has_offsets bytes) (offsets_at bytes + 4 * container_count bytes) (offsets_at bytes) (λ n. n ≤ 8 + 9 * container_count bytes) (λ _. omega (arith, k, o)) (λ _. omega (arith, k, o))

  module _ (at cardinality : ℕ) (runs : AreRuns bytes at cardinality) where
    first_last : (r : ℕ) → run_first bytes at r ≤ run_last bytes at r
    unfolding run_last
    first_last r = omega arith

    -- Between two runs lies a number, so run r ends at 2 r or later.
    last_above : (r : ℕ) → r < run_count bytes at → 2 * r ≤ run_last bytes at r
    last_above zero below = omega arith
    last_above (suc r) below =
        let h = last_above r (omega (arith, below)) in
        let apart = runs.apart r (omega (arith, below)) in
        let same : run_first bytes at (r + 1) ≡ run_first bytes at (suc r) = rw add-one refl in
        let first = first_last (suc r) in
        omega (arith, h, apart, same, first)

    runs_most : (n : ℕ) → n ≡ run_count bytes at → n ≤ 32768
    runs_most zero is = omega arith
    runs_most (suc n) is =
        let here : n < run_count bytes at = omega (arith, is) in
        let above = last_above n here in
        let within = runs.within n here in
        omega (arith, above, within)

  size_most : (k : ℕ) → IsContainer bytes k → size bytes k (container_at bytes k) ≤ 131074
  unfolding size
  size_most k container =
      let at = container_at bytes k in
      cond_both (is_run bytes k) _ _ (λ n. n ≤ 131074)
      (λ run. (let most = runs_most at (cardinality_of bytes k) (container.runs run) (run_count bytes at) refl in omega (arith, most)))
      (λ _. cond_both (nat_le (cardinality_of bytes k) 4096) (2 * cardinality_of bytes k) 8192 (λ n. n ≤ 131074) (λ few. (let f = leb-true (cardinality_of bytes k) 4096 few in omega (arith, f))) (λ _. omega arith))

  at_most : IsStream bytes → (k : ℕ) → k ≤ container_count bytes → container_at bytes k ≤ first_at bytes + 131074 * k
  at_most stream zero below = let f = at_first bytes in omega (arith, f)
  at_most stream (suc k) below =
      let h = at_most stream k (omega (arith, below)) in
      let s = size_most k (stream.containers k (omega (arith, below))) in
      let next : container_at bytes (suc k) ≡ container_at bytes k + size bytes k (container_at bytes k) = rw (← add-one) (at_next bytes k) in
      omega (arith, h, s, next)

  -- No stream with keys below the bound is longer.
  pub longest : (end : ℕ) → IsStream bytes → HasKeysBelow bytes end → length bytes ≤ longest_below end
  longest end stream below =
      let count = counted_below end (container_count bytes) refl stream below in
      let first = first_most in
      let all = at_most stream (container_count bytes) (omega arith) in
      let whole = stream.whole in
      omega (arith, count, first, all, whole)

-- Bytes that are too many are no stream.
pub outside : (known : Option (List ℕ)) (end : ℕ) (error : ReadFromError) → IsInputReason known (longest_below end) error → IfSome known (λ bytes. IsStream bytes → HasKeysBelow bytes end → IsOutside error)
outside None end error h = tt
outside (Some bytes) end (from.Io e) h = λ stream below. tt
outside (Some bytes) end from.Memory h = λ stream below. tt
outside (Some bytes) end from.TooLong h = λ stream below. absurd (let most = longest bytes end stream below in omega (arith, most, h))
outside (Some bytes) end (from.Malformed m) h = absurd h
