use Rattle.std.proofs.Common.{◌≡◌, ◌+◌, ◌≤◌, max, length, flat_map}
use Rattle.hibitset_base.specs.Walk.{items_left}
use Rattle.hibitset_base.proofs.parallel.run.split_each_once.Given as goal

abbrev pub invariant-loop-part : goal.invariant-loop-part
invariant-loop-part g l = record {
  items : flat_map (items_left (λ s. g.T.BitSetLike.holds s.now)) l.next.items ≡ flat_map (items_left (λ s. g.T.BitSetLike.holds s.now)) l.yielded;
  grows : length l.yielded ≤ length l.next.items;
  total : l.total + length l.yielded ≡ length l.fn.parts.items + length l.next.items;
  most : l.total ≤ max (length l.fn.parts.items) l.fn.max_parts;
}
