use Rattle.std.proofs.Common.{◌≡◌, ◌+◌, ◌*◌, ◌≤◌, ◌++◌, take}
use Rattle.hibitset_base.proofs.ByteTableLemmas.{bits_of_bytes}
use Rattle.hibitset_base.proofs.bulk.word_indices.write_by_bytes.Given as goal

abbrev pub invariant-bytes : goal.invariant-bytes
invariant-bytes l = record {
  written : take l.end l.buffer ≡ take l.at l.fn.buffer ++ bits_of_bytes l.start l.word l.place;
  few : l.end ≤ l.at + 8 * l.place;
}
