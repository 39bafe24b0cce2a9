use Rattle.std.proofs.Common.{◌≡◌, ◌+◌, ◌++◌, take}
use Rattle.hibitset_base.specs.declared.byte_table.TheConstants.{BITS_OF}
use Rattle.hibitset_base.proofs.ByteTableLemmas.{moved}
use Rattle.hibitset_base.proofs.bulk.word_indices.write_byte.Given as goal

abbrev pub invariant-places : goal.invariant-places
invariant-places l = take (l.at + l.place) l.buffer ≡ take l.at l.fn.buffer ++ moved BITS_OF l.start l.byte l.place
