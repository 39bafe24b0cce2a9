use Rattle.std.proofs.Common.{◌*◌, ◌≤◌}
use Rattle.hibitset_roaring.proofs.key_counts.count_slots.Given as goal

abbrev pub invariant-summaries : goal.invariant-summaries
invariant-summaries l = l.slots ≤ 64 * l.block
