use Rattle.std.proofs.Common.{◌+◌, ◌++◌, take}
use Rattle.std.specs.Int.RustNames.{count_ones}
use Rattle.hibitset_base.specs.WrittenIndices.{IsWritten}
use Rattle.hibitset_base.specs.Places.{bits_from}
use Rattle.hibitset_base.proofs.bulk.word_indices.write_four.Given as goal

abbrev pub invariant-four : goal.invariant-four
invariant-four l = IsWritten l.buffer l.at (l.at + l.bit) (count_ones l.word) l.start l.rest (take l.at l.fn.buffer ++ bits_from l.start l.word)
