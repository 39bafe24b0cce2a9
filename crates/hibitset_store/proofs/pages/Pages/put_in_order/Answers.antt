use Rattle.std.proofs.Common.{◌≡◌, ◌*◌, length, ap, ◌∙◌, arith}
use Rattle.hibitset_store.specs.declared.pages.TheConstants.{PAGE}
use Rattle.hibitset_store.proofs.MoveLemmas.{PageTableInvariant-in_order}
use Rattle.hibitset_store.proofs.pages.Pages.put_in_order.Goals as goal

pub returns-clause-laid_out : goal.returns-clause-laid_out
returns-clause-laid_out g c =
    let pages = c.args.self.now in
    let end : c.len-end.result * PAGE ≡ PAGE * length pages.starts.items = let is = c.len-end.ensures ∙ pages.starts.ok.0 in omega (arith, is) in
    let none = ap length c.in_ok-slots.ensures.items in
    let long = c.move_values.ensures.long in
    let added = c.in_ok-add_slots.ensures.added in
    PageTableInvariant-in_order pages c.requires.laid_out _ c.move_values.ensures.starts end (omega (arith, long, added, none, end)) c.requires.worth c.move_values.ensures.moved
