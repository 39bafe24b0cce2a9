-- How many members a container has, by its bits, by its runs and by the list of its members.
use Rattle.std.proofs.Common.{◌≡◌, ℕ, zero, suc, ◌+◌, ◌-◌, ◌*◌, ◌/◌, ◌%◌, ◌^◌, ◌<◌, ◌≤◌, ◌==◌, Bool, true, false, List, get_or, length, sym, ap, ◌∙◌, arith, inl, inr}
use Rattle.std.specs.Int.{bit_at}
use Rattle.std.specs.Int.RustNames.{count_ones}
use Rattle.std.proofs.lemmas.Bool.{cases_lt, cases_Bool}
use Rattle.hibitset_base.specs.Members.{members}
use Rattle.hibitset_base.specs.Places.{bits_from}
use Rattle.hibitset_base.proofs.MemberLemmas.{members-same}
use Rattle.hibitset_base.proofs.OneCountLemmas.{bits-count}
use Rattle.hibitset_base.proofs.ReadBoundLemmas.{members-some}
use Rattle.hibitset.specs.WordBits.{stands_in}
use Rattle.hibitset_roaring.specs.Numbers.{u16_at, u32_at, u64_at, any_below, ones_in}
use Rattle.hibitset_roaring.specs.Format.{cardinality_of, is_run, run_count, in_run, in_runs, in_array, in_bits, in_container, container_at, AreBytes, IsContainer}
use Rattle.hibitset_roaring.specs.Words.{ones_from, ones_under}
use Rattle.hibitset_roaring.specs.Runs.{members_under}
use Rattle.hibitset_roaring.specs.Kinds.{cardinality_under}
use Rattle.hibitset_roaring.proofs.SequenceLemmas.{as_many}
use Rattle.hibitset_roaring.proofs.HeaderLemmas.{u32_is, u64_is}
use Rattle.hibitset_roaring.proofs.ContainerLemmas.{in_runs_is, in_array_is, in_bits_is}
use Rattle.hibitset_roaring.proofs.CountLemmas.{counted_none, counted_more}
use Rattle.hibitset_roaring.proofs.MemberLemmas.{by_bit}
use Rattle.hibitset_roaring.proofs.PartLemmas.{ones_none, ones_next}
use Rattle.hibitset_roaring.proofs.RunPartLemmas.{run_numbers}
use Rattle.hibitset_roaring.proofs.WordLemmas.{ones_first, ones_more}

-- ---- bits

module _ (word : ℕ → ℕ) (fits : (q : ℕ) → word q < 2 ^ 64) where
  -- a number by its bit
  abbrev marked : ℕ → Bool
  marked v = bit_at (word (v / 64)) (v % 64) == 1

  word_members : (n : ℕ) → members marked (64 * n) 64 ≡ bits_from (64 * n) (word n)
  word_members n = members-same marked (λ q. bit_at (word n) (q - 64 * n) == 1) (64 * n) 64 (λ i from below.
      let p : i / 64 ≡ n = omega (arith, from, below) in
      let r : i % 64 ≡ i - 64 * n = omega (arith, from, below) in
      ap (λ q. bit_at (word q) (i % 64) == 1) p ∙ ap (λ b. bit_at (word n) b == 1) r)

  word_counted : (n : ℕ) → length (members marked 0 (64 * n + 64)) ≡ length (members marked 0 (64 * n)) + count_ones (word n)
  word_counted n = counted_more marked (64 * n) 64 ∙ ap (λ x. length (members marked 0 (64 * n)) + x) (ap length (word_members n) ∙ bits-count (64 * n) (word n) (fits n))

  -- A sum of the ones of each word counts the members.
  sum_counted : (ones : ℕ → ℕ) → ones 0 ≡ 0 → ((n : ℕ) → ones (n + 1) ≡ ones n + count_ones (word n)) → (n : ℕ) → ones n ≡ length (members marked 0 (64 * n))
  sum_counted ones none next zero = none ∙ sym (counted_none marked)
  sum_counted ones none next (suc n) =
      let e : n + 1 ≡ suc n = omega arith in
      let s : 64 * n + 64 ≡ 64 * suc n = omega arith in
      let h = sum_counted ones none next n in
      let a = next n in
      let b = word_counted n in
      let x : ones (n + 1) ≡ ones (suc n) = ap ones e in
      let y : length (members marked 0 (64 * n + 64)) ≡ length (members marked 0 (64 * suc n)) = ap (λ m. length (members marked 0 m)) s in
      omega (arith, h, a, b, x, y)

-- in words
pub ones_counted : (words : List ℕ) (key : ℕ) → ((p : ℕ) → get_or words p 0 < 2 ^ 64) → ones_under words key ≡ cardinality_under (stands_in words) key
unfolding cardinality_under
ones_counted words key fits =
    sum_counted (λ q. get_or words (1024 * key + q) 0) (λ q. fits (1024 * key + q)) (ones_from words (1024 * key)) (ones_first words (1024 * key)) (ones_more words (1024 * key)) 1024
    ∙ ap length (members-same (λ v. bit_at (get_or words (1024 * key + v / 64) 0) (v % 64) == 1) (members_under (stands_in words) key) 0 65536 (λ v from below. sym (by_bit words key (v / 64) (v % 64) v (omega arith) (omega arith))))

-- ---- containers

module _ (bytes : List ℕ) (are : AreBytes bytes) where
  pub u16_small : (at : ℕ) → u16_at bytes at < 65536
  unfolding u16_at
  u16_small at = let a = are.small at in let b = are.small (at + 1) in omega (arith, a, b)

  pub u32_small : (at : ℕ) → u32_at bytes at < 4294967296
  u32_small at = let a = u16_small at in let b = u16_small (at + 2) in let e = u32_is bytes at in omega (arith, a, b, e)

  pub u64_small : (at : ℕ) → u64_at bytes at < 2 ^ 64
  u64_small at = let a = u32_small at in let b = u32_small (at + 4) in let e = u64_is bytes at in omega (arith, a, b, e)

  bits_counted : (at : ℕ) → ones_in bytes at 1024 ≡ length (members (in_bits bytes at) 0 65536)
  unfolding in_bits
  bits_counted at = sum_counted (λ q. u64_at bytes (at + 8 * q)) (λ q. u64_small (at + 8 * q)) (ones_in bytes at) (ones_none bytes at) (ones_next bytes at) 1024

  module _ (k : ℕ) (container : IsContainer bytes k) where
    runs_counted : is_run bytes k ≡ true → cardinality_of bytes k ≡ length (members (in_container bytes k) 0 65536)
    unfolding in_runs
    runs_counted run =
        let at : ℕ = container_at bytes k in
        let r = container.runs run in
        let numbers = run_numbers bytes at (run_count bytes at) r.apart (run_count bytes at) 65536 (omega arith) r.within in
        sym r.total ∙ (sym numbers ∙ ap length (members-same (λ v. any_below (run_count bytes at) (λ r. in_run bytes at r v)) (in_container bytes k) 0 65536 (λ v from below. in_runs_is bytes k run v)))

    array_counted : is_run bytes k ≡ false → cardinality_of bytes k ≤ 4096 → cardinality_of bytes k ≡ length (members (in_container bytes k) 0 65536)
    unfolding in_array
    array_counted flat few =
        let at : ℕ = container_at bytes k in
        let n : ℕ = cardinality_of bytes k in
        let many = as_many (λ j. u16_at bytes (at + 2 * j)) 65536 n (record { step = (container.array flat few).ascending }) (λ j less. u16_small (at + 2 * j)) in
        sym many ∙ ap length (members-same (λ v. any_below n (λ j. u16_at bytes (at + 2 * j) == v)) (in_container bytes k) 0 65536 (λ v from below. in_array_is bytes k flat few v))

    -- The header says how many members a container has.
    pub cardinality_counted : cardinality_of bytes k ≡ length (members (in_container bytes k) 0 65536)
    cardinality_counted = elim (cases_Bool (is_run bytes k)) [
      | inl run ↦ runs_counted run
      | inr flat ↦ elim (cases_lt 4096 (cardinality_of bytes k)) [
        | inl large ↦ sym (container.bits flat large) ∙ (bits_counted (container_at bytes k) ∙ ap length (members-same (in_bits bytes (container_at bytes k)) (in_container bytes k) 0 65536 (λ v from below. in_bits_is bytes k flat large v)))
        | inr few ↦ array_counted flat few
      ]
    ]

-- ---- members

pub member_under : (has : ℕ → Bool) (key : ℕ) → 0 < cardinality_under has key → (v : ℕ) × (v < 65536) × (members_under has key v ≡ true)
unfolding cardinality_under
member_under has key some = let f = members-some (members_under has key) 0 65536 some in (f.at, (let b = f.below in omega (arith, b)), f.holds)
