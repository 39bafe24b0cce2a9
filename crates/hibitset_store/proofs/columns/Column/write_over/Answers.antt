use Rattle.hibitset_store.specs.Columns.{value_of}
use Rattle.hibitset_store.specs.Pages.{IsPageTable, value_at}
use Rattle.std.proofs.Common.{◌∙◌}
use Rattle.hibitset_store.proofs.PageLemmas.{is_some-again}
use Rattle.hibitset_store.proofs.CapacityLemmas.{PageTableInvariant-put}
use Rattle.hibitset_store.proofs.columns.Column.write_over.Goals as goal

pub invariant_of-self : goal.invariant_of-self
unfolding value_of IsPageTable
invariant_of-self g c =
    let column = c.args.self.now in
    let put = c.swap_value.ensures.put c.args.id c.slot_of_key-slot.ensures in
    record {
      covers = λ i. column.covers i ∙ is_some-again i c.args.id (value_at column.pages) c.args.value _ c.requires (put i);
      laid_out = PageTableInvariant-put _ _ c.args.id _ column.laid_out c.swap_value.ensures.many (column.laid_out.made c.args.id c.requires) put;
      counts = column.counts;
    }
