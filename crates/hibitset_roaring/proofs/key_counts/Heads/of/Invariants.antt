use Rattle.std.proofs.Common.{◌-◌, ◌≤◌}
use Rattle.hibitset_roaring.specs.Streams.{AreHeads}
use Rattle.hibitset_roaring.proofs.key_counts.Heads.of.Given as goal

-- the containers below this key are noted
abbrev pub invariant-keys : goal.invariant-keys
invariant-keys g l = record {
  noted : AreHeads (g.S.ContainerSource.words l.source) l.heads.keys.items l.heads.counts.items l.key;
  within : l.key ≤ 16384;
}

abbrev pub decreases-keys : goal.decreases-keys
decreases-keys g l = 16384 - l.key
