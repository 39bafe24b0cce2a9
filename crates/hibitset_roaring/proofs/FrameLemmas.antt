-- What is read of bytes that were not written.
use Rattle.std.proofs.Common.{◌≡◌, ℕ, zero, suc, ◌+◌, ◌*◌, ◌/◌, ◌%◌, ◌^◌, ◌<◌, ◌≤◌, ◌==◌, ◌||◌, Bool, List, get_or, refl, ap, ◌∙◌, arith}
use Rattle.std.specs.Int.RustNames.{count_ones}
use Rattle.hibitset_roaring.specs.Numbers.{u16_at, u32_at, u64_at, any_below, ones_in}
use Rattle.hibitset_roaring.specs.Format.{in_array, IsArray, in_bits}
use Rattle.hibitset_roaring.specs.Streams.{SameBefore, IsWritten}

pub any_same : (n : ℕ) (p q : ℕ → Bool) → ((j : ℕ) → j < n → p j ≡ q j) → any_below n p ≡ any_below n q
unfolding any_below
any_same zero p q same = refl
any_same (suc n) p q same = ap (λ t. t || any_below n p) (same n (omega arith)) ∙ ap (λ t. q n || t) (any_same n p q (λ j below. same j (omega (arith, below))))

pub before_less : (end less : ℕ) (old new : List ℕ) → less ≤ end → SameBefore end old new → SameBefore less old new
before_less end less old new order same = record { byte = λ p below. same.byte p (omega (arith, order, below)) }

pub before_both : (end : ℕ) (old mid new : List ℕ) → SameBefore end old mid → SameBefore end mid new → SameBefore end old new
before_both end old mid new first second = record { byte = λ p below. second.byte p below ∙ first.byte p below }

pub before_none : (end : ℕ) (out : List ℕ) → SameBefore end out out
before_none end out = record { byte = λ p below. refl }

module _ (end : ℕ) (old new : List ℕ) (same : SameBefore end old new) where
  pub u16_same : (at : ℕ) → at + 2 ≤ end → u16_at new at ≡ u16_at old at
  unfolding u16_at
  u16_same at within = ap (λ b. b + 256 * get_or new (at + 1) 0) (same.byte at (omega (arith, within))) ∙ ap (λ b. get_or old at 0 + 256 * b) (same.byte (at + 1) (omega (arith, within)))

  pub u32_same : (at : ℕ) → at + 4 ≤ end → u32_at new at ≡ u32_at old at
  unfolding u32_at
  u32_same at within = ap (λ b. b + 65536 * u16_at new (at + 2)) (u16_same at (omega (arith, within))) ∙ ap (λ b. u16_at old at + 65536 * b) (u16_same (at + 2) (omega (arith, within)))

  pub u64_same : (at : ℕ) → at + 8 ≤ end → u64_at new at ≡ u64_at old at
  unfolding u64_at
  u64_same at within = ap (λ b. b + 4294967296 * u32_at new (at + 4)) (u32_same at (omega (arith, within))) ∙ ap (λ b. u32_at old at + 4294967296 * b) (u32_same (at + 4) (omega (arith, within)))

  pub in_array_same : (at n v : ℕ) → at + 2 * n ≤ end → in_array new at n v ≡ in_array old at n v
  unfolding in_array
  in_array_same at n v within = any_same n (λ j. u16_at new (at + 2 * j) == v) (λ j. u16_at old (at + 2 * j) == v) (λ j below. ap (λ x. x == v) (u16_same (at + 2 * j) (omega (arith, within, below))))

  pub array_same : (at n : ℕ) → at + 2 * n ≤ end → IsArray old at n → IsArray new at n
  array_same at n within array = record {
    ascending = λ j below.
        let a = array.ascending j below in
        let x = u16_same (at + 2 * j) (omega (arith, within, below)) in
        let y = u16_same (at + 2 * (j + 1)) (omega (arith, within, below)) in
        omega (arith, a, x, y);
  }

  pub in_bits_same : (at v : ℕ) → at + 8192 ≤ end → v < 65536 → in_bits new at v ≡ in_bits old at v
  unfolding in_bits
  in_bits_same at v within small = ap (λ x. x / 2 ^ (v % 64) % 2 == 1) (u64_same (at + 8 * (v / 64)) (omega (arith, within, small)))

  pub ones_same : (at n : ℕ) → at + 8 * n ≤ end → ones_in new at n ≡ ones_in old at n
  unfolding ones_in
  ones_same at zero within = refl
  ones_same at (suc n) within = ap (λ x. x + count_ones (u64_at new (at + 8 * n))) (ones_same at n (omega (arith, within))) ∙ ap (λ x. ones_in old at n + count_ones x) (u64_same (at + 8 * n) (omega (arith, within)))

  -- a container that was written before stays
  pub written_same : (words : List ℕ) (at key count : ℕ) → (count ≤ 4096 → at + 2 * count ≤ end) → (4096 < count → at + 8192 ≤ end) → IsWritten words old at key count → IsWritten words new at key count
  written_same words at key count few many w = record {
    array = λ small. array_same at count (few small) (w.array small);
    listed = λ small v below. in_array_same at count v (few small) ∙ w.listed small v below;
    bits = λ large. ones_same at 1024 (many large) ∙ w.bits large;
    marked = λ large v below. in_bits_same at v (many large) below ∙ w.marked large v below;
  }
