use Rattle.std.proofs.Common.{take, sym, ◌∙◌, ap}
use Rattle.std.proofs.lemmas.Result.{IfOk-weaker}
use Rattle.hibitset.specs.Prelude.{has}
use Rattle.uses.proofs.results.page.Goals as goal

pub returns-in-Some : goal.returns-in-Some
returns-in-Some c =
    IfOk-weaker c.page_from.result _ _ (λ page same. same ∙ ap (take c.args.count) (sym (c.list_laws.ensures.rest (has c.args.found.now) c.args.position c.in-Some.first (sym c.in-Some.ensures)))) c.page_from.ensures
