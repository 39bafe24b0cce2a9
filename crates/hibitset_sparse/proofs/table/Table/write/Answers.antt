use Rattle.std.proofs.Common.{length}
use Rattle.hibitset_sparse.specs.PackedArray.{value_in}
use Rattle.hibitset_sparse.proofs.LayoutLemmas.{set-values}
use Rattle.hibitset_sparse.proofs.table.Table.write.Goals as goal

pub returns-clause-put : goal.returns-clause-put
returns-clause-put g c = λ j low.
    let table = c.args.self.now in
    set-values (value_in table.groups) (length table.items.items) c.args.i c.args.at table.items.items c.args.value table.laid_out c.requires.in_range c.requires.of c.requires.in_length j low
