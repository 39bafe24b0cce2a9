-- A set with all bits above layer 0, as a test of the library has it.
use Rattle.std.specs.Prelude.{◌≡◌, ℕ, zero, suc, ◌+◌, ◌%◌, Bool}
use Rattle.std.proofs.Common.{arith}
use Rattle.std.proofs.lemmas.Nat.Bits.{bit_at_ones}
use Rattle.hibitset_base.specs.Sets.{IsLawful}
use Rattle.hibitset_base.specs.Virtual.{all_ones}

abbrev pub full_word : (ℕ → ℕ → ℕ) → ℕ → ℕ → ℕ
full_word w zero p = w zero p
full_word w (suc l) p = all_ones

pub full_lawful : (n : ℕ) {p : ℕ → Bool} {w : ℕ → ℕ → ℕ} → IsLawful n p w → IsLawful n p (full_word w)
full_lawful n a = record {
  members = a.members;
  summaries = λ l i below within some.
      let one : l + 1 ≡ suc l = omega arith in
      rw one (bit_at_ones 64 (i % 64) (omega arith));
}
