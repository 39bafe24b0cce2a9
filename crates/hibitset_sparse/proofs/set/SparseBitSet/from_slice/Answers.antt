use Rattle.std.proofs.Common.{◌/◌}
use Rattle.hibitset_sparse.proofs.MemberWordLemmas.{zero-word}
use Rattle.hibitset_sparse.proofs.set.SparseBitSet.from_slice.Goals as goal

pub from_slice-requires-clause-all_lack_room : goal.from_slice-requires-clause-all_lack_room
from_slice-requires-clause-all_lack_room c = λ j. zero-word c.new.result (j / 64) (λ i here. c.new.ensures i)
