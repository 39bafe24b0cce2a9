use Rattle.std.proofs.Common.{is_some, sym, ◌∙◌, ap, arith}
use Rattle.hibitset_store.proofs.PageLemmas.{slot_of-some, value-of_some}
use Rattle.hibitset_store.proofs.pages.Pages.value.Goals as goal

pub index-requires : goal.index-requires
index-requires g c =
    let slot = c.slot_of_key.ensures in
    let there = slot_of-some c.args.self.now c.args.id c.requires.has_value in
    omega (arith, slot, there)

pub unwrap_present-requires : goal.unwrap_present-requires
unwrap_present-requires g c =
    let value = value-of_some c.args.self.now c.args.id c.slot_of_key.result c.index.result.now c.requires.has_value c.slot_of_key.ensures c.index.ensures in
    sym (ap is_some value) ∙ c.requires.has_value

pub returns : goal.returns
returns g c = value-of_some c.args.self.now c.args.id c.slot_of_key.result c.index.result.now c.requires.has_value c.slot_of_key.ensures c.index.ensures ∙ c.unwrap_present.ensures
