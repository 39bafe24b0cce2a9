use Rattle.std.proofs.Common.{◌≡◌, ◌+◌, ◌≤◌, ◌++◌, length}
use Rattle.std.specs.Int.RustNames.{count_ones}
use Rattle.std.specs.Vec.{vec_capacity}
use Rattle.hibitset_base.specs.Places.{bits_from}
use Rattle.hibitset_sparse.proofs.bulk.push_bits.Given as goal

-- what was pushed and what is left are all
abbrev pub invariant-bits : goal.invariant-bits
invariant-bits l = record {
  pushed : l.list.items ++ bits_from l.first l.rest ≡ l.fn.list.items ++ bits_from l.first l.word;
  room : length l.list.items + count_ones l.rest ≤ vec_capacity l.list;
  capacity : vec_capacity l.list ≡ vec_capacity l.fn.list;
}

abbrev pub decreases-bits : goal.decreases-bits
decreases-bits l = l.rest
