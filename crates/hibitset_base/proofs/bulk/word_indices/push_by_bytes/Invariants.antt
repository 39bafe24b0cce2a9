use Rattle.std.proofs.Common.{◌≡◌, ◌+◌, ◌*◌, ◌≤◌, ◌++◌, length}
use Rattle.std.specs.Vec.{vec_capacity}
use Rattle.hibitset_base.proofs.ByteTableLemmas.{bits_of_bytes}
use Rattle.hibitset_base.proofs.bulk.word_indices.push_by_bytes.Given as goal

abbrev pub invariant-bytes : goal.invariant-bytes
invariant-bytes l = record {
  pushed : l.list.items ≡ l.initial.list.items ++ bits_of_bytes l.start l.word l.place;
  few : length l.list.items ≤ length l.initial.list.items + 8 * l.place;
  room : vec_capacity l.list ≡ vec_capacity l.initial.list;
}
