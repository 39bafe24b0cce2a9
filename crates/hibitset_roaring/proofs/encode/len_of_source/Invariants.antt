use Rattle.std.proofs.Common.{◌-◌, ◌≤◌}
use Rattle.hibitset.specs.WordBits.{stands_in}
use Rattle.hibitset_roaring.specs.Streams.{AreSizes}
use Rattle.hibitset_roaring.specs.Kinds.{chosen_are_runs}
use Rattle.hibitset_roaring.proofs.encode.len_of_source.Given as goal

-- the containers below this key have these sizes
abbrev pub invariant-keys : goal.invariant-keys
invariant-keys g l = record {
  sizes : AreSizes (g.S.ContainerSource.words l.source) (chosen_are_runs l.optimized (stands_in (g.S.ContainerSource.words l.source))) l.key l.sizes.count l.sizes.some l.sizes.bytes;
  within : l.key ≤ 16384;
}

abbrev pub decreases-keys : goal.decreases-keys
decreases-keys g l = 16384 - l.key
