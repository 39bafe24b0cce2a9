use Rattle.std.proofs.Common.{arith}
use Rattle.hibitset_roaring.proofs.source.WordSource.new.Goals as goal

pub invariant_of-result : goal.invariant_of-result
invariant_of-result c = record { short = c.requires.len_max; fits = λ p. omega (arith, c.type_inv.words p); summed = c.requires.summaries }
