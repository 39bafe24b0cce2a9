use Rattle.std.proofs.Common.{◌≡◌, ℕ, ◌+◌, ◌%◌, ◌==◌, Bool, true, false, bit_xor, refl, sym, ◌∙◌, ap, arith}
use Rattle.std.specs.Int.{bit_at}
use Rattle.std.proofs.lemmas.Nat.Bits.{bit_at_xor, bit_at-zero, same_from_bits}
use Rattle.hibitset_base.specs.Sets.{bit_of}
use Rattle.hibitset_base.specs.Virtual.{differ}
use Rattle.hibitset.specs.Comparison.{agree, agree_word}
use Rattle.hibitset.specs.Operators.{xor_bits}
use Rattle.hibitset.proofs.compare.EqualityComparison.misses.Goals as goal

-- where the bit of the difference is 0, two bits agree
not_apart : (a b : Bool) → bit_of (differ a b) ≡ 0 → agree a b ≡ true
not_apart true true e = refl
not_apart true false e = absurd (omega (arith, e))
not_apart false true e = absurd (omega (arith, e))
not_apart false false e = refl

-- two same words have no difference
xor_same : (x : ℕ) → bit_xor x x ≡ 0
xor_same x = same_from_bits (bit_xor x x) 0 (λ i. bit_at_xor x x i ∙ (twice (bit_at x i) ∙ sym (bit_at-zero i)))
  where
    twice : (b : ℕ) → (b + b) % 2 ≡ 0
    twice b = omega arith

pub returns : goal.returns
returns c = (
  λ none. record { bits = λ b small. not_apart (bit_at c.args.ours b == 1) (bit_at c.args.theirs b == 1) (sym (xor_bits c.args.ours c.args.theirs b) ∙ (ap (λ x. bit_at x b) none ∙ bit_at-zero b)) },
  λ pass. rw (agree_word c.args.ours c.args.theirs (omega arith) (omega arith) pass) (xor_same c.args.theirs),
)
