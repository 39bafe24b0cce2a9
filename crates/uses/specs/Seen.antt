-- Keys that were seen.
use Rattle.std.specs.Prelude.{ℕ, ◌%◌, Bool}
use Rattle.hibitset.specs.Prelude.{MAX_EID}
use Rattle.hibitset_sparse.specs.SparseBitSet.{has}
use Rattle.uses.specs.declared.seen.Seen.{Seen}

-- a key of this hash was seen
abbrev pub was_seen : Seen → ℕ → Bool
was_seen seen hash = has seen.hashes (hash % MAX_EID)
