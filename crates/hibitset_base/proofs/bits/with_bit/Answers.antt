use Rattle.std.proofs.Common.{w64}
use Rattle.std.proofs.lemmas.Nat.Bits.{bit_at_set_same, bit_at_set_other, bit_at_clear_same, bit_at_clear_other}
use Rattle.hibitset_base.proofs.bits.with_bit.Goals as goal

pub returns-then-stands-clause-same : goal.returns-then-stands-clause-same
returns-then-stands-clause-same c = λ b small other. bit_at_set_other w64 c.args.word c.args.bit c.requires b other

pub returns-then-stands-clause-here : goal.returns-then-stands-clause-here
returns-then-stands-clause-here c = rw c.if-stands.true (bit_at_set_same w64 c.args.word c.args.bit c.requires)

pub returns-else-stands-clause-same : goal.returns-else-stands-clause-same
returns-else-stands-clause-same c = λ b small other. bit_at_clear_other w64 c.args.word c.args.bit c.requires b small other

pub returns-else-stands-clause-here : goal.returns-else-stands-clause-here
returns-else-stands-clause-here c = rw c.if-stands.false (bit_at_clear_same w64 c.args.word c.args.bit c.requires)
