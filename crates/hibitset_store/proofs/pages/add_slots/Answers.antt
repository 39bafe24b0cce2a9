use Rattle.std.proofs.Common.{◌+◌, length, length-append, ◌∙◌, ap}
use Rattle.hibitset_store.proofs.FillLemmas.{length-poured, same-poured}
use Rattle.hibitset_store.proofs.pages.add_slots.Goals as goal

pub returns-else-is_err-clause-same : goal.returns-else-is_err-clause-same
returns-else-is_err-clause-same g c = λ j.
    let (empty, given, is, extended, ran) = c.extend-poured.ensures.ran in
    rw (extended.0, c.in_ok-reserve.ensures.items) (same-poured c.args.slots.now.items given empty c.extend-poured.result ran j)

pub returns-else-is_err-clause-added : goal.returns-else-is_err-clause-added
returns-else-is_err-clause-added g c =
    let (empty, given, is, extended, ran) = c.extend-poured.ensures.ran in
    let long = ap length extended.0 ∙ (length-append c.reserve.new.self.items given ∙ ap (λ list. length list + length given) c.in_ok-reserve.ensures.items) in
    rw is at (length-poured (length c.args.slots.now.items) (length c.extend-poured.new.self.items) given empty c.extend-poured.result long ran)
