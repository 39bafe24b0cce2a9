use Rattle.std.proofs.Common.{◌≡◌, ℕ, ◌+◌, ◌*◌, ◌≤◌, List, length}
use Rattle.std.specs.List.{zip}
use Rattle.hibitset_sparse.specs.Walk.{in_chunks}
use Rattle.hibitset_sparse.proofs.CountLemmas.{zip_from}
use Rattle.hibitset_sparse.proofs.bulk.count_chunks.Given as goal

-- what is counted and what is left are all
abbrev pub invariant-chunks : goal.invariant-chunks
invariant-chunks l = record {
  counted : (places : List ℕ) → length places ≡ length l.chunks → l.count + length (in_chunks (zip_from l.chunk-index places l.chunks))
      ≡ length (in_chunks (zip places l.chunks));
  few : l.count ≤ 262144 * l.chunk-index;
}
