use Rattle.std.proofs.Common.{◌≡◌, ℕ, ◌+◌, List, length}
use Rattle.std.specs.Vec.{vec_capacity}
use Rattle.hibitset_base.specs.WrittenIndices.{IsWritten}
use Rattle.hibitset_base.proofs.bulk.word_indices.push_first.Given as goal

abbrev pub invariant-bits : goal.invariant-bits
invariant-bits l = record {
  written : (at total : ℕ) (done : List ℕ) → IsWritten l.initial.list.items at (length l.initial.list.items) total l.start l.word done → IsWritten l.list.items at (length l.list.items) total l.start l.rest done;
  longer : length l.list.items ≡ length l.initial.list.items + l._bit;
  room : vec_capacity l.list ≡ vec_capacity l.initial.list;
}
