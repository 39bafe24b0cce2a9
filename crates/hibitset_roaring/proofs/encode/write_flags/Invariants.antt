use Rattle.std.proofs.Common.{◌≡◌, ℕ, ◌+◌, ◌/◌, ◌%◌, ◌<◌, ◌==◌, get_or}
use Rattle.std.specs.Int.{bit_at}
use Rattle.hibitset_roaring.specs.Streams.{SameBefore}
use Rattle.hibitset_roaring.specs.Runs.{are_runs_shorter}
use Rattle.hibitset_roaring.proofs.encode.write_flags.Given as goal

-- the first j bytes are written
abbrev pub invariant-bytes : goal.invariant-bytes
invariant-bytes l = record {
  before : SameBefore 4 l.fn.out l.out;
  flags : (k : ℕ) → k / 8 < l.j → (bit_at (get_or l.out (4 + k / 8) 0) (k % 8) == 1) ≡ are_runs_shorter (get_or l.runs k 0) (get_or l.counts k 0);
}
