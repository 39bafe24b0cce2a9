use Rattle.std.proofs.Common.{refl, arith}
use Rattle.hibitset_base.proofs.CutLemmas.{lower_ones}
use Rattle.hibitset_base.proofs.bits.low_bits.Goals as goal

pub returns-then-count-eq64 : goal.returns-then-count-eq64
returns-then-count-eq64 c = rw c.if-count-eq64.true refl

pub returns-else-count-eq64 : goal.returns-else-count-eq64
returns-else-count-eq64 c = lower_ones c.args.count (let h = c.if-count-eq64.false in omega (arith, h, c.requires))
