use Rattle.std.proofs.Common.{◌≡◌, sym, ◌∙◌}
use Rattle.hibitset_atomic.specs.declared.steps.calls.Call.{Call}
use Rattle.hibitset_atomic.specs.HistoryFacts.{IsAtRest}
use Rattle.hibitset_atomic.proofs.CallMapLemmas.{each-from_all, all-from_each}
use Rattle.hibitset_atomic.proofs.steps.state.World.is_at_rest.Goals as goal

pub returns : goal.returns
unfolding IsAtRest
returns c =
    let s = c.args.self.now in (
      λ yes-all n call is. each-from_all (λ (x : Call). x.passed ≡ 4) s.calls.map c.all_passed.ensures.ordered (c.all_passed.ensures.all.0 yes-all) n call (s.of_past.calls_of_past n ∙ is),
      λ rest. c.all_passed.ensures.all.1 (all-from_each (λ (x : Call). x.passed ≡ 4) s.calls.map c.all_passed.ensures.ordered (λ n call is. rest n call (sym (s.of_past.calls_of_past n) ∙ is))),
    )
