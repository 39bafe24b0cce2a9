use Rattle.std.proofs.Common.{◌≡◌, ℕ, ◌+◌, ◌<◌, ◌≤◌, true, length, take}
use Rattle.hibitset_base.specs.Members.{members_below}
use Rattle.hibitset_base.specs.declared.util.TheConstants.{MAX_EID}
use Rattle.hibitset_c.specs.List.{RemovesAll}
use Rattle.hibitset_c.proofs.lists.remove_list.Given as goal

abbrev pub invariant-loop-slot : goal.invariant-loop-slot
invariant-loop-slot g l = record {
  within : (i : ℕ) → g.T.BitSetLike.holds l.set i ≡ true → i < MAX_EID;
  removed : RemovesAll (take l.slot l.list) (g.T.BitSetLike.holds l.fn.set) (g.T.BitSetLike.holds l.set);
  counted : length (members_below MAX_EID (g.T.BitSetLike.holds l.fn.set)) ≡ l.count + length (members_below MAX_EID (g.T.BitSetLike.holds l.set));
  few : l.count ≤ l.slot;
  keeps : g.T.DrainableBitSet.keeps_room l.fn.set l.set;
}
