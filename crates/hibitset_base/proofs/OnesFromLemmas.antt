-- How many bits of a word are set, from a bit on.
use Rattle.std.proofs.Common.{ℕ, ◌≡◌, ◌+◌, ◌-◌, ◌/◌, ◌^◌, ◌<◌, ◌≤◌, zero, suc, sym, ap, ◌∙◌, arith}
use Rattle.std.specs.Int.{bit_at}
use Rattle.std.specs.Int.Count.{ones_step}
use Rattle.std.specs.Int.RustNames.{count_ones}
use Rattle.std.proofs.Math.Nat.{div-div-eq-div-mul, pow-suc}

-- the bits from p on are the bit at p and those after it
pub ones-from : (n p : ℕ) → count_ones (n / 2 ^ p) ≡ bit_at n p + count_ones (n / 2 ^ (p + 1))
ones-from n p =
    let e : p + 1 ≡ suc p = omega arith in
    let halved : n / 2 ^ (p + 1) ≡ n / 2 ^ p / 2 =
    ap (λ k. n / 2 ^ k) e ∙ ap (λ k. n / k) (pow-suc 2 p) ∙ sym (div-div-eq-div-mul n (2 ^ p) 2) in
    ones_step (n / 2 ^ p) ∙ ap (λ k. bit_at n p + count_ones k) (sym halved)

ones-all : (n : ℕ) → count_ones (n / 2 ^ 0) ≡ count_ones n
ones-all n = let e : n / 1 ≡ n = omega arith in ap count_ones e

-- fewer stand from a later bit on
ones-fewer : (n p k : ℕ) → count_ones (n / 2 ^ (p + k)) ≤ count_ones (n / 2 ^ p)
ones-fewer n p zero = let e : p + 0 ≡ p = omega arith in rw e (omega arith)
ones-fewer n p (suc k) =
    let e : p + suc k ≡ p + k + 1 = omega arith in
    let h = ones-fewer n p k in
    let step = ones-from n (p + k) in
    rw e (omega arith)

-- two bits are counted
pub two_ones : (n i j : ℕ) → i < j → bit_at n i ≡ 1 → bit_at n j ≡ 1 → 1 < count_ones n
two_ones n i j later here there =
    let all = ones-all n in
    let a = ones-fewer n 0 i in
    let z : 0 + i ≡ i = omega arith in
    let a2 : count_ones (n / 2 ^ i) ≤ count_ones (n / 2 ^ 0) = rw z at a in
    let b = ones-from n i in
    let c = ones-fewer n (i + 1) (j - (i + 1)) in
    let y : i + 1 + (j - (i + 1)) ≡ j = omega arith in
    let c2 : count_ones (n / 2 ^ j) ≤ count_ones (n / 2 ^ (i + 1)) = rw y at c in
    let d = ones-from n j in
    omega (arith, all, a2, b, c2, d, here, there)

-- where no bit below p is set, all that stand do so from p on
pub none_before : (n p : ℕ) → ((i : ℕ) → i < p → bit_at n i ≡ 0) → count_ones (n / 2 ^ p) ≡ count_ones n
none_before n zero none = ones-all n
none_before n (suc p) none =
    let e : p + 1 ≡ suc p = omega arith in
    let h = none_before n p (λ i lower. none i (omega arith)) in
    let step = ones-from n p in
    let z = none p (omega arith) in
    let step2 : count_ones (n / 2 ^ p) ≡ bit_at n p + count_ones (n / 2 ^ suc p) = rw e at step in
    omega (arith, h, step2, z)
