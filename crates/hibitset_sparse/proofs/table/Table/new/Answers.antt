use Rattle.hibitset_sparse.specs.PackedArray.{value_in}
use Rattle.hibitset_sparse.proofs.LayoutLemmas.{none-laid}
use Rattle.hibitset_sparse.proofs.table.Table.new.Goals as goal

pub invariant_of-result : goal.invariant_of-result
invariant_of-result g c = record { laid_out = rw c.new-2.ensures.items (none-laid (value_in c.new.result) c.new.ensures.empty) }
