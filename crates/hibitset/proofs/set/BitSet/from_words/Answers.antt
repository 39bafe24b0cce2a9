use Rattle.std.proofs.Common.{arith}
use Rattle.hibitset.proofs.LengthLemmas.{ends_by}
use Rattle.hibitset.proofs.set.BitSet.from_words.Goals as goal

pub returns-clause-upper_len_max : goal.returns-clause-upper_len_max
returns-clause-upper_len_max c = λ l end below within.
    let made = c.in_ok-layers.ensures.length in
    ends_by c.in_ok-layers.layers l end below (omega (arith, made, within))
