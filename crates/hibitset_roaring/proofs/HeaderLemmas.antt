-- What a header says.
use Rattle.std.proofs.Common.{◌≡◌, ◌≢◌, ℕ, ◌+◌, ◌*◌, ◌/◌, ◌≤◌, ◌||◌, Bool, true, false, cond, not, List, length, refl, ap, ◌∙◌, arith, inl, inr}
use Rattle.std.specs.Prelude.{nat_le}
use Rattle.std.proofs.lemmas.Bool.{cond-true, cond-false, cond_both, cases_Bool}
use Rattle.hibitset_base.specs.Decisions.{eq_same, eq_other}
use Rattle.hibitset_roaring.specs.Numbers.{u16_at, u32_at, u64_at}
use Rattle.hibitset_roaring.specs.Format.{has_runs, container_count, keys_at, has_offsets, offsets_at, first_at, IsStream}
use Rattle.hibitset_roaring.proofs.LayoutLemmas.{first_within}

module _ (bytes : List ℕ) where
  pub u32_is : (at : ℕ) → u32_at bytes at ≡ u16_at bytes at + 65536 * u16_at bytes (at + 2)
  unfolding u32_at
  u32_is at = refl

  pub u64_is : (at : ℕ) → u64_at bytes at ≡ u32_at bytes at + 4294967296 * u32_at bytes (at + 4)
  unfolding u64_at
  u64_is at = refl

  pub runs_from : u16_at bytes 0 ≡ 12347 → has_runs bytes ≡ true
  unfolding has_runs
  runs_from e = eq_same (u16_at bytes 0) 12347 e

  pub no_runs_from : u16_at bytes 0 ≢ 12347 → has_runs bytes ≡ false
  unfolding has_runs
  no_runs_from e = eq_other (u16_at bytes 0) 12347 e

  pub count_with : has_runs bytes ≡ true → container_count bytes ≡ u16_at bytes 2 + 1
  unfolding container_count
  count_with e = cond-true (has_runs bytes) _ _ e

  pub count_without : has_runs bytes ≡ false → container_count bytes ≡ u32_at bytes 4
  unfolding container_count
  count_without e = cond-false (has_runs bytes) _ _ e

  pub keys_with : has_runs bytes ≡ true → keys_at bytes ≡ 4 + (container_count bytes + 7) / 8
  unfolding keys_at
  keys_with e = cond-true (has_runs bytes) _ _ e

  pub keys_without : has_runs bytes ≡ false → keys_at bytes ≡ 8
  unfolding keys_at
  keys_without e = cond-false (has_runs bytes) _ _ e

  pub offsets_at_is : offsets_at bytes ≡ keys_at bytes + 4 * container_count bytes
  unfolding offsets_at
  offsets_at_is = refl

  pub offsets_first : offsets_at bytes ≤ first_at bytes
  unfolding first_at
  offsets_first = cond_both (has_offsets bytes) (offsets_at bytes + 4 * container_count bytes) (offsets_at bytes) (λ n. offsets_at bytes ≤ n) (λ _. omega arith) (λ _. omega arith)

  pub eight : 8 ≤ offsets_at bytes
  eight = let o = offsets_at_is in elim (cases_Bool (has_runs bytes)) [
    | inl on ↦ (let n = count_with on in let k = keys_with on in omega (arith, o, n, k))
    | inr off ↦ (let k = keys_without off in omega (arith, o, k))
  ]

  -- no stream is shorter
  pub least : IsStream bytes → 8 ≤ length bytes
  least stream = let f = first_within bytes stream in let o = offsets_first in let e = eight in omega (arith, f, o, e)

-- what is reckoned from the first two parts
module _ (bytes : List ℕ) (runs : Bool) (count keys : ℕ) (offsets : Bool) (first : ℕ) (runs_is : runs ≡ has_runs bytes) (count_is : count ≡ container_count bytes) (keys_is : keys ≡ cond runs (4 + (count + 7) / 8) 8) (offsets_is : offsets ≡ (not runs || nat_le 4 count)) (first_is : first ≡ cond offsets (keys + 4 * count + 4 * count) (keys + 4 * count)) where
  pub reckoned_keys : keys ≡ keys_at bytes
  unfolding keys_at
  reckoned_keys = keys_is ∙ (ap (λ r. cond r (4 + (count + 7) / 8) 8) runs_is ∙ ap (λ n. cond (has_runs bytes) (4 + (n + 7) / 8) 8) count_is)

  pub reckoned_offsets : offsets ≡ has_offsets bytes
  unfolding has_offsets
  reckoned_offsets = offsets_is ∙ (ap (λ r. not r || nat_le 4 count) runs_is ∙ ap (λ n. not (has_runs bytes) || nat_le 4 n) count_is)

  pub reckoned_first : first ≡ first_at bytes
  unfolding first_at offsets_at
  reckoned_first = first_is ∙ (ap (λ o. cond o (keys + 4 * count + 4 * count) (keys + 4 * count)) reckoned_offsets ∙ (ap (λ k. cond (has_offsets bytes) (k + 4 * count + 4 * count) (k + 4 * count)) reckoned_keys ∙ ap (λ n. cond (has_offsets bytes) (keys_at bytes + 4 * n + 4 * n) (keys_at bytes + 4 * n)) count_is))

  pub fields_within : keys + 4 * count ≤ first
  fields_within = elim (cases_Bool offsets) [
    | inl on ↦ (let f = first_is ∙ cond-true offsets _ _ on in omega (arith, f))
    | inr off ↦ (let f = first_is ∙ cond-false offsets _ _ off in omega (arith, f))
  ]

  pub offsets_within : offsets ≡ true → keys + 8 * count ≤ first
  offsets_within stands = let f = first_is ∙ cond-true offsets _ _ stands in omega (arith, f)

  pub flags_within : runs ≡ true → 4 + (count + 7) / 8 ≤ first
  flags_within e = let k : keys ≡ 4 + (count + 7) / 8 = keys_is ∙ cond-true runs _ _ e in let f = fields_within in omega (arith, k, f)
