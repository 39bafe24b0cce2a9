use Rattle.std.proofs.Common.{◌+◌, ◌%◌, sym, ◌∙◌, ap, arith}
use Rattle.hibitset_store.specs.declared.pages.TheConstants.{PAGE}
use Rattle.hibitset_store.proofs.PageLemmas.{page-of_some, slot_of-behind, start-of_some}
use Rattle.hibitset_store.proofs.pages.Pages.slot_of_key.Goals as goal

pub index-requires : goal.index-requires
index-requires g c = let within = page-of_some c.args.self.now c.args.id c.requires.laid_out c.requires.has_value in omega (arith, within)

pub returns : goal.returns
returns g c =
    ap (λ start. start + c.args.id % PAGE) (start-of_some c.args.self.now c.args.id c.index.result.now c.requires.laid_out c.requires.has_value c.index.ensures)
    ∙ sym (slot_of-behind c.args.self.now c.args.id c.if-id-self.false)
