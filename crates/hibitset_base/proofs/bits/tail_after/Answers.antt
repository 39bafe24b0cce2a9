use Rattle.std.proofs.Common.{◌+◌, arith}
use Rattle.hibitset_base.proofs.BitLemmas.{has_part, ones_after}
use Rattle.hibitset_base.proofs.bits.tail_after.Goals as goal

pub returns : goal.returns
returns c = rw (ones_after c.args.bit c.requires) (has_part c.args.word (c.args.bit + 1) 64 (let below = c.requires in omega (arith, below)) (omega arith))
