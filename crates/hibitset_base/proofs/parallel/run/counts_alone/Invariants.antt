use Rattle.std.proofs.Common.{ℕ, List, ◌++◌, drop}
use Rattle.hibitset_base.specs.Parts.{AreCounts}
use Rattle.hibitset_base.proofs.parallel.run.counts_alone.Given as goal

-- whatever the counts of the parts that are left are, these are the first ones
abbrev pub invariant-loop-part : goal.invariant-loop-part
invariant-loop-part g l =
    (rest : List ℕ) → AreCounts (λ s. g.T.BitSetLike.holds s.now) (drop l.part-index l.parts) rest → AreCounts (λ s. g.T.BitSetLike.holds s.now) l.parts (l.counts.items ++ rest)
