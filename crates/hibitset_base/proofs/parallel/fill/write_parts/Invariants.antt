use Rattle.std.proofs.Common.{◌≡◌, ◌≤◌, ◌++◌, length, take, drop, flat_map}
use Rattle.hibitset_base.specs.Walk.{items_left}
use Rattle.hibitset_base.proofs.parallel.fill.write_parts.Given as goal

abbrev pub invariant-loop-part : goal.invariant-loop-part
invariant-loop-part g l = record {
  written : take l.end l.list ++ flat_map (items_left (λ s. g.T.BitSetLike.holds s.now)) (drop l.part-index l.parts) ≡ flat_map (items_left (λ s. g.T.BitSetLike.holds s.now)) l.parts;
  within : l.end ≤ length l.list;
}
