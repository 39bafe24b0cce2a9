use Rattle.hibitset.proofs.WithinLemmas.{and_everywhere}
use Rattle.hibitset.proofs.assign.BitSetBitAndAssignRef.bitand_assign.Goals as goal

pub returns : goal.returns
returns g c = record { after = (and_everywhere c.args.self.now c.merge_with.new.self (g.B.BitSetLike.holds c.args.other.now) c.merge_with.ensures.members, c.merge_with.ensures.length) }
