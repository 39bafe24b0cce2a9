use Rattle.std.proofs.Common.{◌≡◌, ◌-◌, flat_map}
use Rattle.hibitset_base.specs.Walk.{items_left}
use Rattle.hibitset_base.proofs.parallel.run.split_into_parts.Given as goal

abbrev pub invariant-loop-before : goal.invariant-loop-before
invariant-loop-before g l = flat_map (items_left (λ s. g.T.BitSetLike.holds s.now)) l.parts.items ≡ items_left (λ s. g.T.BitSetLike.holds s.now) l.fn.whole

-- a round in which nothing is split is the last
abbrev pub decreases-loop-before : goal.decreases-loop-before
decreases-loop-before g l = l.fn.max_parts - l.before
