use Rattle.std.proofs.Common.{arith}
use Rattle.hibitset_base.proofs.BitLemmas.{has_part}
use Rattle.hibitset_base.proofs.CutLemmas.{lower_ones}
use Rattle.hibitset_base.proofs.bits.head.Goals as goal

pub returns : goal.returns
returns c = rw (lower_ones c.args.bit c.requires) (has_part c.args.word 0 c.args.bit (omega arith) (let below = c.requires in omega (arith, below)))
