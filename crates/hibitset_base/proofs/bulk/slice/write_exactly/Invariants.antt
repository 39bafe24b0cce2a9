use Rattle.std.proofs.Common.{◌+◌, ◌-◌, ◌++◌, take}
use Rattle.std.specs.Int.RustNames.{count_ones}
use Rattle.hibitset_base.specs.WrittenIndices.{IsWritten}
use Rattle.hibitset_base.specs.Places.{bits_from}
use Rattle.hibitset_base.proofs.bulk.slice.write_exactly.Given as goal

abbrev pub invariant-bits : goal.invariant-bits
invariant-bits l = IsWritten l.list l.at l.end (count_ones l.word) l.start l.rest (take l.at l.fn.list ++ bits_from l.start l.word)

abbrev pub decreases-bits : goal.decreases-bits
decreases-bits l = l.at + count_ones l.word - l.end
