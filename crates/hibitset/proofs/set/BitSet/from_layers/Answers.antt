use Rattle.std.proofs.Common.{◌≡◌, ℕ, ◌+◌, ◌*◌, ◌<◌, arith}
use Rattle.hibitset_base.specs.Words.{SummariesExactEverywhere}
use Rattle.hibitset_base.specs.declared.util.TheConstants.{LAYERS}
use Rattle.hibitset.proofs.set.BitSet.from_layers.Goals as goal

-- exact summaries, by words that are the same
summed_same : (n : ℕ) (v w : ℕ → ℕ → ℕ) → ((l p : ℕ) → l < n → v l p ≡ w l p) → SummariesExactEverywhere n w → SummariesExactEverywhere n v
summed_same n v w same summed = record { summed = λ l p b below small. rw (same (l + 1) p below, same l (64 * p + b) (omega (arith, below))) (summed.summed l p b below small) }

pub invariant_of-result : goal.invariant_of-result
invariant_of-result c = record { summed = summed_same LAYERS _ _ c.in_ok-layers.ensures.words c.requires.summed }
