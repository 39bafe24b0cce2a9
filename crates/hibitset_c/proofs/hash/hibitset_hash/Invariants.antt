use Rattle.std.proofs.Common.{◌≡◌, ◌-◌, ◌≤◌, length}
use Rattle.hibitset_c.specs.Hash.{hash_to}
use Rattle.hibitset_c.specs.LentSet.{has}
use Rattle.hibitset_c.proofs.hash.hibitset_hash.Given as goal

abbrev pub invariant-loop-position : goal.invariant-loop-position
invariant-loop-position l = record {
  hash : l.hash ≡ hash_to (has l.set) l.position;
  within : l.position ≤ length l.words;
}

abbrev pub decreases-loop-position : goal.decreases-loop-position
decreases-loop-position l = length l.words - l.position
