use Rattle.std.proofs.Common.{◌≡◌, ◌*◌, ◌≤◌, take}
use Rattle.std.specs.List.{sum_by}
use Rattle.hibitset_sparse.specs.Memory.{bytes_in_chunk}
use Rattle.hibitset_sparse.proofs.memory.all_chunk_bytes.Given as goal

abbrev pub invariant-chunks : goal.invariant-chunks
invariant-chunks l = record {
  bytes : l.bytes ≡ sum_by bytes_in_chunk (take l.chunk-index l.chunks);
  few : l.bytes ≤ 33792 * l.chunk-index;
}
