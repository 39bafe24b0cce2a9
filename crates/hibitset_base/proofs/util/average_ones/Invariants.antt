use Rattle.std.proofs.Common.{◌≡◌, ◌+◌}
use Rattle.std.specs.Int.RustNames.{count_ones}
use Rattle.hibitset_base.proofs.MiddleBitLemmas.{AreHighest}
use Rattle.hibitset_base.proofs.util.average_ones.Given as goal

-- one bit fewer is left at each turn, and those that are left are the word's highest
abbrev pub invariant-lower : goal.invariant-lower
invariant-lower l = (count_ones l.upper + l.counter ≡ l.count + l.half) × AreHighest l.n l.upper
