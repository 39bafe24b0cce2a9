use Rattle.std.proofs.Common.{◌+◌, refl, sym, ◌∙◌, arith}
use Rattle.std.specs.Vec.{with_item}
use Rattle.hibitset_store.specs.declared.pages.TheConstants.{PAGE}
use Rattle.hibitset_store.proofs.NewPageLemmas.{made-here, PageTableInvariant-equal, PageTableInvariant-made, PageTableInvariant-made_next, value_at-made, value_at-made_next}
use Rattle.hibitset_store.proofs.PageLemmas.{few_slots, value_at-equal}
use Rattle.hibitset_store.proofs.pages.Pages.append_page.Goals as goal

pub overflow_cast-start : goal.overflow_cast-start
overflow_cast-start g c = let few = few_slots c.args.self.now c.requires.laid_out in omega (arith, few)

pub returns-in_err-add_slots-clause-same : goal.returns-in_err-add_slots-clause-same
returns-in_err-add_slots-clause-same g c = value_at-equal c.args.self.now (record { starts = c.args.self.now.starts; slots = c.add_slots.new.slots; in_order = c.args.self.now.in_order }) refl c.in_err-add_slots.ensures.err refl

pub returns-in_err-add_slots-clause-laid_out : goal.returns-in_err-add_slots-clause-laid_out
returns-in_err-add_slots-clause-laid_out g c = PageTableInvariant-equal c.args.self.now _ refl c.in_err-add_slots.ensures.err refl c.requires.laid_out

pub returns-then-start-self-clause-same : goal.returns-then-start-self-clause-same
returns-then-start-self-clause-same g c = value_at-made_next c.args.self.now (record { starts = with_item c.args.self.now.starts c.args.page c.len-start.result; slots = c.add_slots.new.slots; in_order = c.args.self.now.in_order + PAGE }) c.args.page c.len-start.result (c.len-start.ensures ∙ c.args.self.now.slots.ok.0) c.requires.laid_out c.requires.within (sym c.if-start-page.true ∙ c.if-start-self.true) c.if-start-page.true c.requires.no_page refl refl c.add_slots.ensures.same c.in_ok-add_slots.ensures.added

pub returns-then-start-self-clause-laid_out : goal.returns-then-start-self-clause-laid_out
returns-then-start-self-clause-laid_out g c = PageTableInvariant-made_next c.args.self.now _ c.args.page c.len-start.result (c.len-start.ensures ∙ c.args.self.now.slots.ok.0) c.requires.laid_out c.requires.within (sym c.if-start-page.true ∙ c.if-start-self.true) c.if-start-page.true c.requires.no_page refl refl c.add_slots.ensures.same c.in_ok-add_slots.ensures.added

pub returns-else-start-page-clause-same : goal.returns-else-start-page-clause-same
returns-else-start-page-clause-same g c = value_at-made c.args.self.now (record { starts = with_item c.args.self.now.starts c.args.page c.len-start.result; slots = c.add_slots.new.slots; in_order = c.args.self.now.in_order }) c.args.page c.len-start.result (c.len-start.ensures ∙ c.args.self.now.slots.ok.0) c.requires.laid_out c.requires.within c.requires.behind c.requires.no_page refl refl c.add_slots.ensures.same c.in_ok-add_slots.ensures.added

pub returns-else-start-page-clause-laid_out : goal.returns-else-start-page-clause-laid_out
returns-else-start-page-clause-laid_out g c = PageTableInvariant-made c.args.self.now _ c.args.page c.len-start.result (c.len-start.ensures ∙ c.args.self.now.slots.ok.0) c.requires.laid_out c.requires.within c.requires.behind c.requires.no_page refl refl c.add_slots.ensures.same c.in_ok-add_slots.ensures.added

pub returns-else-start-page-clause-made : goal.returns-else-start-page-clause-made
returns-else-start-page-clause-made g c = made-here c.args.self.now (record { starts = with_item c.args.self.now.starts c.args.page c.len-start.result; slots = c.add_slots.new.slots; in_order = c.args.self.now.in_order }) c.args.page c.len-start.result (c.len-start.ensures ∙ c.args.self.now.slots.ok.0) c.requires.laid_out c.requires.within c.requires.behind c.requires.no_page refl refl c.add_slots.ensures.same c.in_ok-add_slots.ensures.added
