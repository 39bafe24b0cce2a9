use Rattle.std.proofs.Common.{◌∙◌, arith}
use Rattle.hibitset_store.proofs.PageLemmas.{few_slots}
use Rattle.hibitset_store.proofs.pages.Pages.is_worth_order.Goals as goal

pub overflow_mul-result-then-pages-le-MAX_PAGES_IN_ORDER : goal.overflow_mul-result-then-pages-le-MAX_PAGES_IN_ORDER
overflow_mul-result-then-pages-le-MAX_PAGES_IN_ORDER g c = let few = few_slots c.args.self.now c.requires in let long = c.len-len.ensures ∙ c.args.self.now.slots.ok.0 in omega (arith, few, long)
