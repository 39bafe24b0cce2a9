use Rattle.std.proofs.Common.{refl, sym, ap, length}
use Rattle.hibitset.specs.BitSet.{has}
use Rattle.hibitset_base.specs.declared.util.TheConstants.{MAX_EID}
use Rattle.hibitset.proofs.MemberCountLemmas.{members-nowhere}
use Rattle.hibitset_store.specs.Pages.{IsPageTable}
use Rattle.hibitset_store.proofs.NewPageLemmas.{PageTableInvariant-none}
use Rattle.hibitset_store.proofs.columns.Column.new.Goals as goal

pub invariant_of-result : goal.invariant_of-result
unfolding IsPageTable
invariant_of-result g c = record {
  covers = λ i. let none = c.new.ensures.empty i in rw (none, c.new-2.ensures.slots) refl;
  laid_out = PageTableInvariant-none c.new-2.result c.new-2.ensures.starts c.new-2.ensures.slots c.new-2.ensures.order;
  counts = sym (ap length (members-nowhere (has c.new.result) MAX_EID c.new.ensures.empty));
}
