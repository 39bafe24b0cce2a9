use Rattle.std.proofs.Common.{arith}
use Rattle.hibitset_base.proofs.RankedLemmas.{counts_of_all}
use Rattle.hibitset_base.proofs.ranked.Ranked.new.Goals as goal
use Rattle.hibitset_base.proofs.ranked.Ranked.new.Goals.{in-Some, in-None}

pub invariant_of-result : goal.invariant_of-result
invariant_of-result g c = elim c.match-last.branch [
  | in-Some w ↦ record { counted = counts_of_all _ _ _ c.in_ok-counts.ensures.length (let within = w.in-Some.ensures.within in omega (arith, within, w.blocks-is)) c.in_ok-counts.ensures.each (λ i from below. w.in-Some.ensures.none_after i (omega (arith, from, w.blocks-is)) below) }
  | in-None w ↦ record { counted = counts_of_all _ _ _ c.in_ok-counts.ensures.length (omega (arith, w.blocks-is)) c.in_ok-counts.ensures.each (λ i from below. w.in-None.ensures i below) }
]
