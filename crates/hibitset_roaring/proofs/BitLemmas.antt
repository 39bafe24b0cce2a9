-- Bits of words written as bits.
use Rattle.std.proofs.Common.{◌≡◌, ℕ, zero, suc, ◌+◌, ◌*◌, ◌/◌, ◌%◌, ◌<◌, ◌==◌, List, get_or, refl, ap, ◌∙◌, arith}
use Rattle.std.specs.Int.{bit_at}
use Rattle.std.specs.Int.RustNames.{count_ones}
use Rattle.hibitset.specs.WordBits.{stands_in}
use Rattle.hibitset_roaring.specs.Numbers.{u64_at, ones_in}
use Rattle.hibitset_roaring.specs.Format.{in_bits}
use Rattle.hibitset_roaring.specs.Words.{ones_from}

module _ (out words : List ℕ) (at base : ℕ) where
  pub ones_marked : (n : ℕ) → ((q : ℕ) → q < n → u64_at out (at + 8 * q) ≡ get_or words (base + q) 0) → ones_in out at n ≡ ones_from words base n
  unfolding ones_in ones_from
  ones_marked zero same = refl
  ones_marked (suc n) same = ap (λ x. x + count_ones (u64_at out (at + 8 * n))) (ones_marked n (λ q below. same q (omega (arith, below)))) ∙ ap (λ x. ones_from words base n + count_ones x) (same n (omega arith))

pub bits_marked : (out words : List ℕ) (at key : ℕ) → ((q : ℕ) → q < 1024 → u64_at out (at + 8 * q) ≡ get_or words (1024 * key + q) 0) → (v : ℕ) → v < 65536 → in_bits out at v ≡ stands_in words (65536 * key + v)
unfolding in_bits
bits_marked out words at key same v small =
    let p : 1024 * key + v / 64 ≡ (65536 * key + v) / 64 = omega arith in
    let r : v % 64 ≡ (65536 * key + v) % 64 = omega arith in
    ap (λ x. bit_at x (v % 64) == 1) (same (v / 64) (omega (arith, small)) ∙ ap (λ q. get_or words q 0) p) ∙ ap (λ q. bit_at (get_or words ((65536 * key + v) / 64) 0) q == 1) r
