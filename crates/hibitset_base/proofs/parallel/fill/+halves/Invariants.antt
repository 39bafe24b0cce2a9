use Rattle.std.proofs.Common.{◌+◌, ◌*◌}
use Rattle.hibitset_base.proofs.parallel.fill.+halves.Given as goal

abbrev pub decreases-fill : goal.decreases-fill
decreases-fill g l = 3 * l.depth

abbrev pub decreases-fill_both : goal.decreases-fill_both
decreases-fill_both g l = 3 * l.depth + 2

abbrev pub decreases-fill_both-first : goal.decreases-fill_both-first
decreases-fill_both-first g l = 3 * l.depth + 1

abbrev pub decreases-fill_both-second : goal.decreases-fill_both-second
decreases-fill_both-second g l = 3 * l.depth + 1
