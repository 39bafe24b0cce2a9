use Rattle.std.proofs.Common.{◌/◌, refl}
use Rattle.hibitset_sparse.proofs.MemberWordLemmas.{zero-word}
use Rattle.hibitset_sparse.proofs.set.SparseBitSet.from_index_refs.Goals as goal

pub from_index_refs-requires : goal.from_index_refs-requires
from_index_refs-requires g c κs = ((refl, tt), (c.requires, (c.new.ensures, λ j. zero-word c.new.result (j / 64) (λ i here. c.new.ensures i))))
