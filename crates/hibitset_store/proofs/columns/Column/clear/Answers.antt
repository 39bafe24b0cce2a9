use Rattle.std.proofs.Common.{sym, ap, length, refl}
use Rattle.hibitset_base.specs.declared.util.TheConstants.{MAX_EID}
use Rattle.hibitset.specs.BitSet.{has}
use Rattle.hibitset.proofs.MemberCountLemmas.{members-nowhere}
use Rattle.hibitset_store.specs.Pages.{IsPageTable}
use Rattle.hibitset_store.proofs.NewPageLemmas.{PageTableInvariant-none}
use Rattle.hibitset_store.proofs.columns.Column.clear.Goals as goal

pub invariant_of-self : goal.invariant_of-self
unfolding IsPageTable
invariant_of-self g c = record {
  covers = λ i. let none = c.clear.ensures.empty i in rw (none, c.clear-2.ensures.slots) refl;
  laid_out = PageTableInvariant-none c.clear-2.new.self c.clear-2.ensures.starts c.clear-2.ensures.slots c.clear-2.ensures.order;
  counts = sym (ap length (members-nowhere (has c.clear.new.self) MAX_EID c.clear.ensures.empty));
}
