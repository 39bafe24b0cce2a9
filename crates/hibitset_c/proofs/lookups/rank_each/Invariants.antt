use Rattle.std.proofs.Common.{◌≡◌, drop, length, map, min, take}
use Rattle.hibitset_base.specs.Members.{members_below}
use Rattle.hibitset_base.specs.declared.util.TheConstants.{MAX_EID}
use Rattle.hibitset_c.proofs.lookups.rank_each.Given as goal

abbrev pub invariant-loop-slot : goal.invariant-loop-slot
invariant-loop-slot g l = record {
  written : take l.slot l.ranks ≡ map (λ end. length (members_below (min end MAX_EID) (g.T.BitSetLike.holds l.set))) (take l.slot l.ends);
  rest : drop l.slot l.ranks ≡ drop l.slot l.fn.ranks;
  length_stays : length l.ranks ≡ length l.fn.ranks;
}
