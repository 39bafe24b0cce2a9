use Rattle.std.proofs.Common.{arith}
use Rattle.hibitset_base.proofs.BitLemmas.{within_at}
use Rattle.hibitset_base.proofs.bits.bits_within.Goals as goal

pub returns : goal.returns
returns c = λ b small.
    within_at c.args.first c.args.start c.args.end b c.low_bits.result c.low_bits-before.result c.min-2.result c.min.result (omega (arith, c.low_bits-before.type_inv)) small
    (omega (arith, c.min-2.ensures, c.saturating_sub-2.ensures)) (omega (arith, c.min.ensures, c.saturating_sub.ensures)) c.low_bits.ensures c.low_bits-before.ensures
