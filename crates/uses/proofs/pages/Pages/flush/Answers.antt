use Rattle.std.proofs.Common.{sym, ◌∙◌, append_assoc, length-append, rules, arith}
use Rattle.std.proofs.lemmas.Grind.{common_steps}
use Rattle.hibitset.specs.Prelude.{has, drained_set, MAX_EID}
use Rattle.hibitset.proofs.CallerLemmas.{after_first, none_at_all}
use Rattle.uses.proofs.pages.Pages.flush.Goals as goal

pub loop-page-preserved : goal.loop-page-preserved
loop-page-preserved c =
    let steps = c.in-Some.ensures.steps in
    record {
      lent = steps.1 ∙ c.loop-page.invariant.lent;
      moved = grind (arith, common_steps, append_assoc);
      left = after_first MAX_EID _ _ c.in-Some.page _ (sym c.loop-page.invariant.left ∙ steps.0) steps.2;
      room = grind (arith, common_steps, length-append);
    }

pub returns-clause-clean : goal.returns-clause-clean
returns-clause-clean c = λ i.
    let set = drained_set c.loop-page.page-iterator in
    let none = none_at_all MAX_EID (has set) (c.laws.ensures.in_range set) (sym c.loop-page.invariant.left ∙ c.in-None.ensures.steps.0.0) i in
    let same = c.in-None.ensures.steps.2 in
    search (rules, none, same)
