use Rattle.std.proofs.Common.{◌≡◌, ℕ, ◌+◌, ◌<◌, ◌==◌, get_or}
use Rattle.std.specs.Int.{bit_at}
use Rattle.hibitset_roaring.specs.Runs.{are_runs_shorter}
use Rattle.hibitset_roaring.proofs.encode.flags_from.Given as goal

-- the first b flags are in the byte
abbrev pub invariant-flags : goal.invariant-flags
invariant-flags l = (i : ℕ) → i < l.b → (bit_at l.byte i == 1) ≡ are_runs_shorter (get_or l.runs (l.first + i) 0) (get_or l.counts (l.first + i) 0)
