-- Ranges of indices as bits of words.
use Rattle.std.proofs.Common.{◌≡◌, ℕ, zero, suc, ◌^◌, ◌<◌, ◌==◌, ◌&&◌, ◌||◌, Bool, true, false, not, cond, refl, ap, ◌∙◌, arith, w64, bit_and, bit_or}
use Rattle.std.specs.Int.{bit_at, bit_not}
use Rattle.std.proofs.lemmas.Nat.Bits.{bit_at-lt}
use Rattle.hibitset_base.specs.Sets.{bit_of}
use Rattle.hibitset_base.proofs.BitLemmas.{cleared_at}
use Rattle.hibitset.specs.Operators.{or_bits}

set_by : (a c : Bool) → bit_of (a || c) ≡ cond c (bit_of true) (bit_of a)
set_by true true = refl
set_by true false = refl
set_by false true = refl
set_by false false = refl

clear_by : (a c : Bool) → bit_of (a && not c) ≡ cond c (bit_of false) (bit_of a)
clear_by true true = refl
clear_by true false = refl
clear_by false true = refl
clear_by false false = refl

-- a bit by its test
bit_is : (x : ℕ) → x < 2 → bit_of (x == 1) ≡ x
bit_is zero small = refl
bit_is (suc zero) small = refl
bit_is (suc (suc x)) small = absurd (omega arith)

-- the bits of a word with some of them set, or cleared
pub set_at : (word bits b : ℕ) → bit_at (bit_or word bits) b ≡ cond (bit_at bits b == 1) (bit_of true) (bit_at word b)
set_at word bits b = or_bits word bits b ∙ (set_by (bit_at word b == 1) (bit_at bits b == 1) ∙ ap (λ t. cond (bit_at bits b == 1) (bit_of true) t) (bit_is (bit_at word b) (bit_at-lt word b)))

pub clear_at : (word bits b : ℕ) → bits < 2 ^ 64 → b < 64 → bit_at (bit_and word (bit_not w64 bits)) b ≡ cond (bit_at bits b == 1) (bit_of false) (bit_at word b)
clear_at word bits b fits small = cleared_at word bits b fits small ∙ (clear_by (bit_at word b == 1) (bit_at bits b == 1) ∙ ap (λ t. cond (bit_at bits b == 1) (bit_of false) t) (bit_is (bit_at word b) (bit_at-lt word b)))
