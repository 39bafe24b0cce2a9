use Rattle.std.proofs.Common.{◌/◌}
use Rattle.hibitset_sparse.proofs.MemberWordLemmas.{zero-word}
use Rattle.hibitset_sparse.proofs.set.SparseBitSet.from_indices.Goals as goal

pub from_indices-requires-clause-all_lack_room : goal.from_indices-requires-clause-all_lack_room
from_indices-requires-clause-all_lack_room g c = λ j. zero-word c.new.result (j / 64) (λ i here. c.new.ensures i)
