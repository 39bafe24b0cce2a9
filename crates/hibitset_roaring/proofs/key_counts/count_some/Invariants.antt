use Rattle.std.proofs.Common.{◌≡◌, ◌-◌, ◌*◌, ◌<◌, ◌≤◌}
use Rattle.hibitset_roaring.specs.Words.{IsRest, ones_from}
use Rattle.hibitset_roaring.proofs.key_counts.count_some.Given as goal

-- the bits before this slot are counted
abbrev pub invariant-slots : goal.invariant-slots
invariant-slots l = record {
  within : l.slot ≤ 1024;
  rest : l.slot < 1024 → IsRest l.above l.key l.slot l.rest;
  count : l.ones ≡ ones_from l.words l.base l.slot;
  few : l.ones ≤ 64 * l.slot;
}

abbrev pub decreases-slots : goal.decreases-slots
decreases-slots l = 1024 - l.slot
