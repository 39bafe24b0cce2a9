use Rattle.std.proofs.Common.{◌∙◌, sym, ap}
use Rattle.std.specs.Option.{is_some}
use Rattle.hibitset_store.specs.Pages.{IsPageTable}
use Rattle.hibitset_store.proofs.PageLemmas.{is_some-over}
use Rattle.hibitset_store.proofs.CapacityLemmas.{PageTableInvariant-many}
use Rattle.hibitset_store.proofs.columns.Column.get_mut.Goals as goal

pub invariant_of-self-lent : goal.invariant_of-self-lent
unfolding IsPageTable
invariant_of-self-lent g c = λ result. (
  (λ w. let ends = c.get_mut.follows.holds w in ((λ i. c.args.self.now.covers i ∙ is_some-over i c.args.id _ _ w (ends.0 i)), (PageTableInvariant-many _ _ c.args.self.now.laid_out ends.1 (λ i some. c.args.self.now.laid_out.made i (is_some-over i c.args.id _ _ w (ends.0 i) ∙ some)), (c.args.self.now.counts, tt)))),
  (let ends = c.get_mut.follows.holds-at-none in ((λ i. c.args.self.now.covers i ∙ ap is_some (sym (ends.0 i))), (PageTableInvariant-many _ _ c.args.self.now.laid_out ends.1 (λ i some. c.args.self.now.laid_out.made i (ap is_some (sym (ends.0 i)) ∙ some)), (c.args.self.now.counts, tt)))),
)
