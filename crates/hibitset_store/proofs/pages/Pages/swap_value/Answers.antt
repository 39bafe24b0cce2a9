use Rattle.std.proofs.Common.{refl, ◌∙◌, ap, set, arith}
use Rattle.std.specs.Vec.{with_item}
use Rattle.hibitset_store.proofs.PageLemmas.{value_at-put}
use Rattle.hibitset_store.proofs.pages.Pages.swap_value.Goals as goal

pub returns-clause-put : goal.returns-clause-put
returns-clause-put g c = λ id here.
    let pages = c.args.self.now in
    let there = c.requires.in_range in
    value_at-put pages (record { starts = pages.starts; slots = with_item pages.slots c.args.slot c.replace.new.dest; in_order = pages.in_order }) id c.args.value c.requires.laid_out (omega (arith, here, there)) refl refl
    (ap (λ value. set pages.slots.items c.args.slot value) c.replace.ensures.after ∙ ap (λ slot. set pages.slots.items slot c.args.value) here)
