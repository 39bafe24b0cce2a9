-- A range turned over: an exclusive or with the range as a set.
use Rattle.std.proofs.Common.{◌≡◌, ℕ, suc, ◌+◌, ◌-◌, ◌*◌, ◌/◌, ◌^◌, ◌<◌, ◌≤◌, lit<, arith, ◌⊎◌, inl, inr}
use Rattle.std.proofs.Math.Nat.{pow-suc, one-le-pow, lt-mul-div-succ, mul-le-mul_left, mul_comm, mul_assoc}
use Rattle.std.proofs.lemmas.Bool.{cases_lt}
use Rattle.std.proofs.lemmas.Bool.Decides.{nat_tests}
use Rattle.hibitset_base.specs.Connectives.{is_member}
use Rattle.hibitset_base.specs.Ranges.{in_range, range_word, run_order}
use Rattle.hibitset_base.specs.declared.util.TheConstants.{MAX_EID}
use Rattle.hibitset.specs.Merge.{NoWordsFrom}

-- a range within all numbers has them as its members
pub range_members : (start end i : ℕ) → end ≤ MAX_EID → is_member (in_range start end) i ≡ in_range start end i
range_members start end i within = grind (arith, nat_tests)

-- a range has no words from where it ends on, and none at all where it is empty
pub no_words : (start end from : ℕ) → (end ≤ 64 * from) ⊎ (end ≤ start) → NoWordsFrom (range_word start end) from
no_words start end from ends p below after = elim (cases_lt 0 (range_word start end 0 p)) [
  | inr none ↦ omega (arith, none)
  | inl some ↦ absurd (
      let order = run_order (start / 1) ((end + 0) / 1) p some in
      let first : start / 1 ≡ start = omega arith in
      let last : (end + 0) / 1 ≡ end = omega arith in
      elim ends [
        | inl short ↦ (let high = order.1 in omega (arith, high, last, short, after))
        | inr empty ↦ (let some_there = order.2 in omega (arith, some_there, first, last, empty))
      ])
]

-- the words over the last index of a range cover it
pub covers_end : (end l most : ℕ) → (end - 1) / 64 ^ (l + 1) + 1 ≤ most → end ≤ 64 * (64 ^ l * most)
covers_end end l most reaches =
    let some : 0 < 64 ^ (l + 1) = one-le-pow (l + 1) 64 (lit< tt) in
    let last : end - 1 < 64 ^ (l + 1) * ((end - 1) / 64 ^ (l + 1) + 1) = lt-mul-div-succ (end - 1) some in
    let more : 64 ^ (l + 1) * ((end - 1) / 64 ^ (l + 1) + 1) ≤ 64 ^ (l + 1) * most = mul-le-mul_left (64 ^ (l + 1)) reaches in
    let s : l + 1 ≡ suc l = omega arith in
    let size : 64 ^ (l + 1) * most ≡ 64 * (64 ^ l * most) = rw (s, pow-suc 64 l, mul_comm (64 ^ l) 64) (mul_assoc 64 (64 ^ l) most) in
    omega (arith, last, more, size)
