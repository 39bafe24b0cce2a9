use Rattle.std.proofs.Common.{◌≡◌, drop, length, map, take}
use Rattle.hibitset_base.specs.Sets.{bit_of}
use Rattle.hibitset_c.proofs.lookups.contains_each.Given as goal

abbrev pub invariant-loop-slot : goal.invariant-loop-slot
invariant-loop-slot g l = record {
  written : take l.slot l.found ≡ map (λ i. bit_of (g.T.BitSetLike.holds l.set i)) (take l.slot l.indices);
  rest : drop l.slot l.found ≡ drop l.slot l.fn.found;
  length_stays : length l.found ≡ length l.fn.found;
}
