use Rattle.std.proofs.Common.{◌≡◌, ◌-◌, ◌*◌, ◌≤◌, length}
use Rattle.hibitset_base.specs.Members.{members}
use Rattle.hibitset_base.proofs.bulk.count.count_block.Given as goal

abbrev pub invariant-words : goal.invariant-words
invariant-words g l = (l.count ≡ length (members (g.T.BitSetLike.holds l.set) (l.start * 64) (64 * l.word))) × (l.word ≤ 64)

abbrev pub decreases-words : goal.decreases-words
decreases-words g l = 64 - l.word
