use Rattle.hibitset.proofs.WithinLemmas.{difference_everywhere}
use Rattle.hibitset.proofs.set.BitSet.subtract_assign.Goals as goal

pub returns-clause-members : goal.returns-clause-members
returns-clause-members g c = difference_everywhere c.args.self.now c.merge_with.new.self (g.B.BitSetLike.holds c.args.other.now) c.merge_with.ensures.members
