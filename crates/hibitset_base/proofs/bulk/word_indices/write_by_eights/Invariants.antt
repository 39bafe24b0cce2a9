use Rattle.std.proofs.Common.{◌≡◌, ◌+◌, ◌-◌, ◌%◌, ◌≤◌, ◌++◌, take}
use Rattle.std.specs.Int.RustNames.{count_ones}
use Rattle.hibitset_base.specs.WrittenIndices.{IsWritten}
use Rattle.hibitset_base.specs.Places.{bits_from}
use Rattle.hibitset_base.proofs.bulk.word_indices.write_by_eights.Given as goal

abbrev pub invariant-eights : goal.invariant-eights
invariant-eights l = record {
  written : IsWritten l.buffer l.at l.end (count_ones l.word) l.start l.rest (take l.at l.fn.buffer ++ bits_from l.start l.word);
  eights : (l.end - l.at) % 8 ≡ 0;
  from : l.at ≤ l.end;
}

abbrev pub decreases-eights : goal.decreases-eights
decreases-eights l = l.at + 64 - l.end

abbrev pub invariant-bits : goal.invariant-bits
invariant-bits l = IsWritten l.buffer l.at (l.end + l.bit) (count_ones l.word) l.start l.rest (take l.at l.fn.buffer ++ bits_from l.start l.word)
