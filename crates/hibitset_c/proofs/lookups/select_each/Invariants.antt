use Rattle.std.proofs.Common.{◌≡◌, ◌<◌, drop, length, map, slice_index, take}
use Rattle.std.specs.List.{All}
use Rattle.hibitset_base.specs.Members.{members_below}
use Rattle.hibitset_base.specs.declared.util.TheConstants.{MAX_EID}
use Rattle.hibitset_c.proofs.lookups.select_each.Given as goal

abbrev pub invariant-loop-slot : goal.invariant-loop-slot
invariant-loop-slot g l = record {
  found : All (λ at. at < length (members_below MAX_EID (g.T.BitSetLike.holds l.set))) (take l.slot l.positions);
  written : take l.slot l.indices ≡ map (λ at. slice_index (members_below MAX_EID (g.T.BitSetLike.holds l.set)) at) (take l.slot l.positions);
  rest : drop l.slot l.indices ≡ drop l.slot l.fn.indices;
  length_stays : length l.indices ≡ length l.fn.indices;
}
