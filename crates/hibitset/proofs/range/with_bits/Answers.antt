use Rattle.std.proofs.Common.{arith}
use Rattle.std.proofs.lemmas.Nat.{le_or_l}
use Rattle.hibitset.proofs.RangeBitLemmas.{set_at, clear_at}
use Rattle.hibitset.proofs.range.with_bits.Goals as goal

pub returns-then-stands-clause-bits : goal.returns-then-stands-clause-bits
returns-then-stands-clause-bits c = λ b small. rw c.if-stands.true (set_at c.args.word c.args.bits b)

pub returns-then-stands-clause-grows : goal.returns-then-stands-clause-grows
returns-then-stands-clause-grows c = λ set. le_or_l c.args.word c.args.bits

pub returns-else-stands-clause-bits : goal.returns-else-stands-clause-bits
returns-else-stands-clause-bits c = λ b small. rw c.if-stands.false (clear_at c.args.word c.args.bits b (let h = c.ranges.bits in omega (arith, h)) small)
