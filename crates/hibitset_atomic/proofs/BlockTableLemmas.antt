-- Places of blocks, and how many of them are made.
use Rattle.std.proofs.Common.{◌≡◌, ℕ, suc, ◌+◌, ◌<◌, ◌≤◌, List, [], ◌∷◌, get_or, length, min, refl, arith, inl, inr}
use Rattle.std.proofs.Math.ListN.{set}
use Rattle.std.proofs.lemmas.Bool.{cases_lt}
use Rattle.std.proofs.lemmas.List.{length-set, get_or_past}
use Rattle.std.proofs.lemmas.List.Sums.{sum_by-cons, sum_by-set}
use Rattle.hibitset_atomic.specs.BlockTable.{IsPlaced, made_count}

-- no block is made
pub made_none : (places : List ℕ) → ((k : ℕ) → get_or places k 0 ≡ 0) → made_count places ≡ 0
made_none [] none = refl
made_none (x ∷ xs) none =
    let h : x ≡ 0 = none 0 in
    let e : made_count xs ≡ 0 = made_none xs (λ k. none (suc k)) in
    rw (h, e) refl

-- at most all
pub made_most : (places : List ℕ) → made_count places ≤ length places
made_most [] = omega arith
made_most (x ∷ xs) =
    let h : made_count xs ≤ length xs = made_most xs in
    let e = sum_by-cons (λ (y : ℕ). min y 1) x xs in
    omega (arith, h, e)

pub made_one : (places : List ℕ) (k v : ℕ) → k < length places → get_or places k 0 ≡ 0 → 0 < v → made_count (set places k v) ≡ made_count places + 1
made_one places k v there new some =
    let e = sum_by-set (λ (x : ℕ). min x 1) places k v 0 there in
    let f : min (get_or places k 0) 1 ≡ 0 = rw new refl in
    let g : min v 1 ≡ 1 = omega arith in
    omega (arith, e, f, g)

-- where one is not made, not all are
pub made_less : (places : List ℕ) (k : ℕ) → k < length places → get_or places k 0 ≡ 0 → made_count places < length places
made_less places k there new =
    let e = made_one places k 1 there new (omega arith) in
    let f = made_most (set places k 1) in
    let g = length-set places k 1 in
    omega (arith, e, f, g)

-- no block is made, and the one that has no bits is there
pub placed_new : (n : ℕ) (places words : List ℕ) → length places ≡ n → ((k : ℕ) → get_or places k 0 ≡ 0) → length words ≡ 64 → ((p : ℕ) → get_or words p 0 ≡ 0) → IsPlaced n places words
placed_new n places words count none size blank = record {
  count = count;
  size = (let e = made_none places none in omega (arith, e, size));
  blank = λ r small. blank r;
  within = λ k. (let e = none k in omega (arith, e));
  apart = λ j k some same. absurd (let e = none j in omega (arith, e, some));
  fits = λ p. rw (blank p) (omega arith);
}

-- a block that is made is one of all
pub made_within : (n : ℕ) (places words : List ℕ) (k : ℕ) → IsPlaced n places words → 0 < get_or places k 0 → k < n
made_within n places words k placed some = elim (cases_lt k n) [
  | inl within ↦ within
  | inr past ↦ absurd (let e = get_or_past places k 0 (let f = placed.count in omega (arith, f, past)) in omega (arith, e, some))
]
