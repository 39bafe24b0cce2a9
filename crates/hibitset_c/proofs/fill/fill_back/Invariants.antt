use Rattle.std.proofs.Common.{◌≡◌, ◌≤◌, ◌++◌, drop, length, min, reverse, take}
use Rattle.hibitset_base.specs.Members.{members_below}
use Rattle.hibitset_base.specs.RevWalk.{rev_items_left}
use Rattle.hibitset_base.specs.declared.util.TheConstants.{MAX_EID}
use Rattle.hibitset_c.proofs.fill.fill_back.Given as goal

abbrev pub invariant-loop-index : goal.invariant-loop-index
invariant-loop-index g l = record {
  items : take l.count l.buffer ++ rev_items_left g.T.BitSetLike.holds l.index-iterator ≡ reverse (members_below (min l.fn.end MAX_EID) (g.T.BitSetLike.holds l.fn.set));
  within : l.count ≤ length l.buffer;
  rest : drop l.count l.buffer ≡ drop l.count l.fn.buffer;
  length_stays : length l.buffer ≡ length l.fn.buffer;
}
