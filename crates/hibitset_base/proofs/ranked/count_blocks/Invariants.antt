use Rattle.std.proofs.Common.{◌≡◌, ◌+◌, ◌*◌, length}
use Rattle.hibitset_base.specs.Members.{members_below}
use Rattle.hibitset_base.specs.Ranks.{CountsBefore, block_size}
use Rattle.hibitset_base.proofs.ranked.count_blocks.Given as goal

abbrev pub invariant-starts : goal.invariant-starts
invariant-starts g l = record {
  many : length l.counts.items ≡ l.block + 1;
  each : CountsBefore (g.T.BitSetLike.holds l.set) l.counts.items;
  count : l.count ≡ length (members_below (block_size * l.block) (g.T.BitSetLike.holds l.set));
}
