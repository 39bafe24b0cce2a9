use Rattle.std.proofs.Common.{◌-◌, ◌*◌, ◌≤◌}
use Rattle.hibitset_base.proofs.bulk.list.sample.Given as goal

abbrev pub invariant-words : goal.invariant-words
invariant-words g l = (l.room ≤ 64 * l.words) × (l.words ≤ 32)

abbrev pub decreases-words : goal.decreases-words
decreases-words g l = 32 - l.words
