use Rattle.std.proofs.Common.{◌≡◌, ◌+◌, ◌++◌, length}
use Rattle.std.specs.Vec.{vec_capacity}
use Rattle.hibitset_base.proofs.WriteLemmas.{first_bits}
use Rattle.hibitset_sparse.proofs.bulk.push_all.Given as goal

abbrev pub invariant-bits : goal.invariant-bits
invariant-bits l = record {
  pushed : l.list.items ≡ l.fn.list.items ++ first_bits l.first l.bit;
  long : length l.list.items ≡ length l.fn.list.items + l.bit;
  room : vec_capacity l.list ≡ vec_capacity l.fn.list;
}
