use Rattle.std.specs.Bool.{one_answer}
use Rattle.hibitset.specs.BitSet.{has}
use Rattle.hibitset.specs.Comparison.{agree_same, same_agree}
use Rattle.hibitset.proofs.EqualityLemmas.{eq-Decides}
use Rattle.hibitset.proofs.compare.BitSetPartialEq.eq.Goals as goal

pub returns : goal.returns
returns c =
    let a = c.args.self.now in
    let b = c.args.other.now in
    one_answer c.compare.result _ (λ e i below. agree_same (has a i) (has b i) (c.compare.ensures.0 e i below), λ same. c.compare.ensures.1 (λ i below. same_agree (has a i) (has b i) (same i below))) (eq-Decides a b)
