use Rattle.std.proofs.Common.{◌≡◌, refl}
use Rattle.hibitset_store.specs.Pages.{PageTableInvariant}
use Rattle.hibitset_store.proofs.NewPageLemmas.{PageTableInvariant-ordered}
use Rattle.hibitset_store.proofs.pages.Pages.add_page.Goals as goal
use Rattle.hibitset_store.proofs.pages.Pages.add_page.Goals.{then-is_worth_order+in_ok-put_in_order, else-is_worth_order}

pub returns-then-page-self-clause-laid_out : goal.returns-then-page-self-clause-laid_out
returns-then-page-self-clause-laid_out g c =
    let pages = c.if-is_worth_order.self in
    let laid : PageTableInvariant pages = elim c.if-is_worth_order.branch [
      | then-is_worth_order+in_ok-put_in_order w ↦ rw w.self-is w.put_in_order.ensures.laid_out
      | else-is_worth_order w ↦ rw w.self-is c.requires.laid_out
    ] in
    let starts : pages.starts.items ≡ c.args.self.now.starts.items = elim c.if-is_worth_order.branch [
      | then-is_worth_order+in_ok-put_in_order w ↦ rw w.self-is w.put_in_order.ensures.starts
      | else-is_worth_order w ↦ rw w.self-is refl
    ] in
    PageTableInvariant-ordered pages _ c.args.page laid (rw starts c.requires.within) c.if-page-self.true (rw starts c.requires.no_page) refl refl refl
