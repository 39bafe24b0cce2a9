use Rattle.std.proofs.Common.{◌+◌, ◌/◌, sym, ◌∙◌, ap, arith}
use Rattle.hibitset.specs.BitSet.{word_of}
use Rattle.hibitset.specs.Layout.{count_of}
use Rattle.hibitset.proofs.LayerStartLemmas.{over_next}
use Rattle.hibitset.proofs.LayerLemmas.{length_of}
use Rattle.hibitset.proofs.laws.slice_laws.Goals as goal

pub returns-clause-summed : goal.returns-clause-summed
unfolding word_of
returns-clause-summed c set = set.summed

pub returns-clause-fitted : goal.returns-clause-fitted
returns-clause-fitted c set l below =
    length_of set.layers (l + 1) (omega (arith, below))
    ∙ (over_next l (count_of set.layers.lens) ∙ ap (λ n. (n + 63) / 64) (sym (length_of set.layers l (omega (arith, below)))))
