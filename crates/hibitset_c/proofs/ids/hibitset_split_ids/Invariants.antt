use Rattle.std.proofs.Common.{◌≡◌, ◌/◌, ◌%◌, ◌^◌, drop, length, map, min, take}
use Rattle.hibitset_c.proofs.ids.hibitset_split_ids.Given as goal

abbrev pub invariant-loop-slot : goal.invariant-loop-slot
invariant-loop-slot l = record {
  highs : take l.slot l.highs ≡ map (λ id. min (id / 2 ^ l.bits) l.shards) (take l.slot l.ids);
  highs_rest : drop l.slot l.highs ≡ drop l.slot l.fn.highs;
  highs_length : length l.highs ≡ length l.fn.highs;
  lows : take l.slot l.lows ≡ map (λ id. id % 2 ^ l.bits) (take l.slot l.ids);
  lows_rest : drop l.slot l.lows ≡ drop l.slot l.fn.lows;
  lows_length : length l.lows ≡ length l.fn.lows;
}
