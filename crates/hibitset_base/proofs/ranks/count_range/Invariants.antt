use Rattle.std.proofs.Common.{◌≡◌, ◌+◌, ◌-◌, ◌*◌, ◌^◌, ◌<◌, ◌≤◌, length}
use Rattle.hibitset_base.specs.Members.{members}
use Rattle.hibitset_base.specs.declared.util.TheConstants.{LAYERS}
use Rattle.hibitset_base.proofs.ranks.count_range.Given as goal

-- what is counted, and what lies between the two positions of the layer, is all
abbrev pub invariant-layers : goal.invariant-layers
invariant-layers g l = record {
  below : l.layer < LAYERS;
  within : l.to ≤ 64 ^ (LAYERS - l.layer);
  count : l.count + length (members (g.T.BitSetLike.holds l.set) (l.from * 64 ^ l.layer) ((l.to - l.from) * 64 ^ l.layer)) ≡ length (members (g.T.BitSetLike.holds l.set) l.start (l.end - l.start));
}
