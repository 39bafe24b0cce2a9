-- Where the containers of a stream lie, by lists of their keys, cardinalities and runs.
use Rattle.std.proofs.Common.{◌≡◌, ℕ, zero, suc, ◌+◌, ◌*◌, ◌/◌, ◌%◌, ◌^◌, ◌<◌, ◌≤◌, ◌==◌, Bool, List, get_or, length, sym, ap, ◌∙◌, arith, inl, inr}
use Rattle.std.specs.Int.{bit_at}
use Rattle.std.proofs.lemmas.Bool.{cases_Bool, cond-true, cond-false, both_ways, and_parts, false_from_ne_true}
use Rattle.hibitset.specs.WordBits.{stands_in}
use Rattle.hibitset_roaring.specs.Format.{has_runs, container_count, keys_at, has_offsets, offsets_at, first_at, key_of, is_run, container_at}
use Rattle.hibitset_roaring.specs.Streams.{flat_bytes, container_bytes, start_from, first_after, AreHeads, AreKinds, HaveKeys, SaysRuns}
use Rattle.hibitset_roaring.specs.Runs.{are_runs_shorter}
use Rattle.hibitset_roaring.specs.Kinds.{cardinality_under, bytes_under, IsStreamOf}
use Rattle.hibitset_roaring.proofs.LayoutLemmas.{at_first}
use Rattle.hibitset_roaring.proofs.RunPartLemmas.{bytes_as_runs, bytes_flat, from_first, from_next}
use Rattle.hibitset_roaring.proofs.CardinalityLemmas.{ones_counted}
use Rattle.hibitset_roaring.proofs.KeyLemmas.{as_many_keys, same_keys, head_keys}
use Rattle.hibitset_roaring.proofs.UniqueLemmas.{keys_of_it, next_container}

-- where the first container begins
pub first_is : (bytes : List ℕ) (some : Bool) (n : ℕ) → has_runs bytes ≡ some → container_count bytes ≡ n → first_at bytes ≡ first_after some n
unfolding first_at has_offsets offsets_at keys_at
first_is bytes some n says many = ap (λ r. first_after r (container_count bytes)) says ∙ ap (λ m. first_after some m) many

module _ (words keys counts : List ℕ) (bound : ℕ) (fits : (p : ℕ) → get_or words p 0 < 2 ^ 64) (heads : AreHeads words keys counts bound) (short : length words ≤ 1024 * bound) where
  pub count_under : (k : ℕ) → k < length keys → get_or counts k 0 ≡ cardinality_under (stands_in words) (get_or keys k 0)
  count_under k below = heads.counted k below ∙ ones_counted words (get_or keys k 0) fits

  module _ (kinds : ℕ → Bool) (bytes : List ℕ) (s : IsStreamOf (stands_in words) kinds bytes) where
    pub count_is : container_count bytes ≡ length keys
    count_is = as_many_keys (stands_in words) (key_of bytes) (λ k. get_or keys k 0) (container_count bytes) (length keys) (keys_of_it (stands_in words) kinds bytes s) (head_keys words keys counts bound fits heads short)

    pub key_is : (k : ℕ) → k < length keys → key_of bytes k ≡ get_or keys k 0
    key_is k below = let c = count_is in same_keys (stands_in words) (key_of bytes) (λ k. get_or keys k 0) (container_count bytes) (length keys) (keys_of_it (stands_in words) kinds bytes s) (head_keys words keys counts bound fits heads short) k (omega (arith, below, c))

    module _ (runs : List ℕ) (numbers : AreKinds words keys counts runs) (kinds_are : HaveKeys kinds keys counts runs) where
      bytes_are : (k : ℕ) → k < length keys → container_bytes (get_or counts k 0) (get_or runs k 0) ≡ bytes_under (stands_in words) kinds (get_or keys k 0)
      unfolding bytes_under
      bytes_are k below =
          let kind = kinds_are.kind k below in
          elim (cases_Bool (are_runs_shorter (get_or runs k 0) (get_or counts k 0))) [
            | inl on ↦ bytes_as_runs (get_or counts k 0) (get_or runs k 0) on ∙ (ap (λ n. 2 + 4 * n) (numbers.exact k below on) ∙ sym (cond-true (kinds (get_or keys k 0)) _ _ (sym kind ∙ on)))
            | inr off ↦ bytes_flat (get_or counts k 0) (get_or runs k 0) off ∙ (ap (λ n. flat_bytes n) (count_under k below) ∙ sym (cond-false (kinds (get_or keys k 0)) _ _ (sym kind ∙ off)))
          ]

      kind_is : (k : ℕ) → k < length keys → is_run bytes k ≡ are_runs_shorter (get_or runs k 0) (get_or counts k 0)
      kind_is k below = let c = count_is in s.kinds k (omega (arith, below, c)) ∙ (ap kinds (key_is k below) ∙ sym (kinds_are.kind k below))

      module _ (some : Bool) (says : SaysRuns some counts runs) where
        cookie_is : has_runs bytes ≡ some
        unfolding is_run
        cookie_is = elim (cases_Bool some) [
          | inl on ↦
              let h = says.any on in
              let k : ℕ = h.0 in
              let same = heads.same in
              let below : k < length keys = (let b = h.1 in omega (arith, b, same)) in
              (and_parts (has_runs bytes) (bit_at (get_or bytes (4 + k / 8) 0) (k % 8) == 1) (kind_is k below ∙ h.2)).0 ∙ sym on
          | inr off ↦ false_from_ne_true (has_runs bytes) (λ run.
              let h = s.cookie run in
              let c = count_is in
              let same = heads.same in
              let b = h.1 in
              both_ways (is_run bytes h.0) (kind_is h.0 (omega (arith, b, c)) ∙ says.none off h.0 (omega (arith, b, c, same))) h.2) ∙ sym off
        ]

        starts : (k : ℕ) → k ≤ length keys → container_at bytes k ≡ start_from (first_after some (length keys)) counts runs k
        starts zero order = at_first bytes ∙ (first_is bytes some (length keys) cookie_is count_is ∙ sym (from_first (first_after some (length keys)) counts runs))
        starts (suc k) order =
            let first : ℕ = first_after some (length keys) in
            let e : k + 1 ≡ suc k = omega arith in
            let below : k < length keys = omega (arith, order) in
            let c = count_is in
            let h : container_at bytes k ≡ start_from first counts runs k = starts k (omega (arith, order)) in
            let x = next_container (stands_in words) kinds bytes s k (omega (arith, below, c)) in
            let y = ap (bytes_under (stands_in words) kinds) (key_is k below) in
            let z = bytes_are k below in
            let next = from_next first counts runs k in
            let there : container_at bytes (k + 1) ≡ start_from first counts runs (k + 1) = omega (arith, h, x, y, z, next) in
            rw e at there

        pub length_is : length bytes ≡ start_from (first_after some (length keys)) counts runs (length keys)
        length_is = sym s.stream.whole ∙ (ap (container_at bytes) count_is ∙ starts (length keys) (omega arith))
