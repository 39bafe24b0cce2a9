use Rattle.hibitset_atomic.proofs.CallerStepLemmas.{looked, look_stands, test_true, test_false, look_gap}
use Rattle.hibitset_atomic.proofs.shared.types.SharedBitSet.load_bit.Goals as goal

pub returns-clause-same : goal.returns-clause-same
returns-clause-same c = let t = looked _ _ _ _ c.load-word.ensures.found in (c.load-word.ensures.same.0, c.load-word.ensures.same.1, t.0, t.1)

pub returns-clause-stands : goal.returns-clause-stands
returns-clause-stands c = λ e. look_stands c.args.mark c.load-word.result _ _ c.load-word.ensures.found (test_true _ _ e)

pub returns-clause-gap : goal.returns-clause-gap
returns-clause-gap c = λ e. look_gap c.args.mark c.load-word.result _ _ c.load-word.ensures.found (test_false _ _ e)
