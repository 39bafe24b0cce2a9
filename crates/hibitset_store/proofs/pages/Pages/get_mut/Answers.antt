use Rattle.std.proofs.Common.{◌≡◌, None, refl, sym, ◌∙◌, ap, set, arith}
use Rattle.std.specs.Vec.{with_item}
use Rattle.std.proofs.lemmas.List.{length-set}
use Rattle.hibitset_store.specs.declared.pages.Pages.{Pages}
use Rattle.hibitset_store.specs.Pages.{HasSlot, value_at}
use Rattle.hibitset_store.proofs.PageLemmas.{put_back, value-of_slot, value_at-put, written_over-none}
use Rattle.hibitset_store.proofs.pages.Pages.get_mut.Goals as goal

pub returns-in-None : goal.returns-in-None
returns-in-None g c =
    let pages = c.args.self.now in
    let found = c.in_ok-value.field-0.now in
    let here = c.slot-slot.ensures in
    let there : HasSlot pages c.args.id = let slot = c.in_ok-value.ensures.variant.0 refl in let ok = pages.slots.ok.0 in omega (arith, slot, here, ok) in
    let value : value_at pages c.args.id ≡ found = value-of_slot pages c.args.id c.slot-slot.result found there here c.in_ok-value.ensures.value in
    let none : value_at pages c.args.id ≡ None = value ∙ c.in-None.is in
    let new : Pages g.row.V.Denot = record { starts = pages.starts; slots = with_item pages.slots c.slot-slot.result found; in_order = pages.in_order } in (
      (
        refl,
        (λ w. ((λ i. written_over-none i c.args.id _ w (λ same. ap (value_at pages) same ∙ none)), record { starts = refl; order = refl; count = refl })),
        ((λ i. value_at-put pages new c.args.id found c.requires there refl refl (ap (λ slot. set pages.slots.items slot found) here) i ∙ put_back i c.args.id (value_at pages) found value), record { starts = refl; order = refl; count = length-set pages.slots.items c.slot-slot.result found }),
      ),
      record { writes_back = tt; value = sym none },
    )
