use Rattle.std.proofs.Common.{◌≡◌, ◌+◌, ◌++◌, take}
use Rattle.hibitset_base.proofs.WriteLemmas.{first_bits}
use Rattle.hibitset_base.proofs.bulk.word_indices.write_all.Given as goal

abbrev pub invariant-bits : goal.invariant-bits
invariant-bits l = take (l.at + l.bit) l.buffer ≡ take l.at l.fn.buffer ++ first_bits l.start l.bit
