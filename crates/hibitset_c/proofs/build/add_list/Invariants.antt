use Rattle.std.proofs.Common.{ℕ, ◌/◌, ◌-◌, ◌<◌, ◌≤◌, length, take}
use Rattle.std.specs.List.{All}
use Rattle.hibitset_base.specs.declared.util.TheConstants.{MAX_EID}
use Rattle.hibitset.specs.BitSet.{has, slice_len}
use Rattle.hibitset_c.specs.List.{AddsFirst}
use Rattle.hibitset_c.proofs.build.add_list.Given as goal

abbrev pub invariant-loop-count : goal.invariant-loop-count
invariant-loop-count l = record {
  added : AddsFirst l.fn.list l.count (has l.fn.set) (has l.set);
  within : l.count ≤ length l.fn.list;
  in_range : All (λ i. i < MAX_EID) (take l.count l.fn.list);
  len_min : slice_len l.fn.set 0 ≤ slice_len l.set 0;
  len_max : (end : ℕ) → slice_len l.fn.set 0 ≤ end → All (λ i. i / 64 < end) (take l.count l.fn.list) → slice_len l.set 0 ≤ end;
}

abbrev pub decreases-loop-count : goal.decreases-loop-count
decreases-loop-count l = length l.fn.list - l.count
