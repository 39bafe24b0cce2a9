use Rattle.std.proofs.Common.{ℕ, Bool, take, length, ◌∙◌, ap}
use Rattle.std.specs.Borrow.{Bor}
use Rattle.std.proofs.lemmas.Iterator.{YieldsList-from_take, items_from_collect}
use Rattle.std.proofs.lemmas.Iterator.Consumers.{YieldsList-from_shown, YieldsList-at}
use Rattle.std.proofs.lemmas.Result.{IfOk-weaker}
use Rattle.hibitset.specs.Prelude.{WalkSteps, items_left, has, word_of}
use Rattle.hibitset.specs.declared.set.BitSet.{BitSet}
use Rattle.uses.proofs.results.page_from.Goals as goal

pub returns : goal.returns
returns c =
    let holds : Bor BitSet → ℕ → Bool = λ s. has s.now in
    let word : Bor BitSet → ℕ → ℕ → ℕ = λ s. word_of s.now in
    let road = YieldsList-from_shown (WalkSteps holds word) (λ (x : ℕ). x) (items_left holds) (λ s t h. ap length h.0.0) (λ s x t h. h.0) c.iter_from.result in
    IfOk-weaker c.collect.result _ _ (λ page same. same ∙ ap (take c.args.count) c.iter_from.ensures.items)
    (items_from_collect _ c.collect.ensures.ran (YieldsList-from_take c.args.count (YieldsList-at c.take.ensures.source road) c.take.ensures.count))
