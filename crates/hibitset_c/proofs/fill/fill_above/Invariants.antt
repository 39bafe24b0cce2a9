use Rattle.std.proofs.Common.{◌≡◌, ◌+◌, ◌-◌, ◌%◌, ◌^◌, ◌≤◌, ◌++◌, drop, length, map, take}
use Rattle.hibitset_base.specs.Members.{members}
use Rattle.hibitset_base.specs.Walk.{items_left}
use Rattle.hibitset_base.specs.declared.util.TheConstants.{MAX_EID}
use Rattle.hibitset_c.proofs.fill.fill_above.Given as goal

abbrev pub invariant-loop-index : goal.invariant-loop-index
invariant-loop-index g l = record {
  items : take l.count l.buffer ++ map (λ i. (l.fn.base + i) % 2 ^ 64) (items_left g.T.BitSetLike.holds l.index-iterator) ≡ map (λ i. (l.fn.base + i) % 2 ^ 64) (members (g.T.BitSetLike.holds l.fn.set) l.fn.start (MAX_EID - l.fn.start));
  within : l.count ≤ length l.buffer;
  rest : drop l.count l.buffer ≡ drop l.count l.fn.buffer;
  length_stays : length l.buffer ≡ length l.fn.buffer;
}
