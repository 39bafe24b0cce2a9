use Rattle.std.proofs.Common.{subst, sym, lit<}
use Rattle.hibitset_base.specs.Places.{bits_from}
use Rattle.hibitset_atomic.specs.Ahead.{AllAbove}
use Rattle.hibitset_atomic.proofs.CursorWordLemmas.{above-places}
use Rattle.hibitset_atomic.proofs.steps.walks.Progress.new.Goals as goal

pub invariant_of-result : goal.invariant_of-result
invariant_of-result c = record { above = subst AllAbove (sym c.at_top.ensures.left) (above-places 3 (bits_from 0 0) (lit< tt)) }
