use Rattle.std.proofs.Common.{arith}
use Rattle.hibitset_base.proofs.BitLemmas.{has_part, ones_on}
use Rattle.hibitset_base.proofs.bits.tail.Goals as goal

pub returns : goal.returns
returns c = rw (ones_on c.args.bit c.requires) (has_part c.args.word c.args.bit 64 (let below = c.requires in omega (arith, below)) (omega arith))
