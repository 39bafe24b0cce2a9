use Rattle.std.proofs.Common.{◌≡◌, ◌+◌, ◌++◌, length}
use Rattle.std.specs.Vec.{vec_capacity}
use Rattle.hibitset_base.specs.declared.byte_table.TheConstants.{BITS_OF}
use Rattle.hibitset_base.proofs.ByteTableLemmas.{moved}
use Rattle.hibitset_base.proofs.bulk.word_indices.push_byte.Given as goal

abbrev pub invariant-places : goal.invariant-places
invariant-places l = record {
  pushed : l.list.items ≡ l.initial.list.items ++ moved BITS_OF l.start l.byte l.place;
  long : length l.list.items ≡ length l.initial.list.items + l.place;
  room : vec_capacity l.list ≡ vec_capacity l.initial.list;
}
