use Rattle.std.proofs.Common.{◌≡◌, ℕ, ◌+◌, ◌-◌, ◌*◌, ◌<◌, ◌≤◌, ◌&&◌}
use Rattle.std.specs.Prelude.{nat_lt}
use Rattle.hibitset.specs.WordBits.{stands_in}
use Rattle.hibitset_roaring.specs.Numbers.{u16_at}
use Rattle.hibitset_roaring.specs.Format.{in_array}
use Rattle.hibitset_roaring.specs.Streams.{SameBefore}
use Rattle.hibitset_roaring.specs.Words.{IsRest, ones_from}
use Rattle.hibitset_roaring.proofs.array.write_array.Given as goal

-- the members of the words before this slot are written
abbrev pub invariant-slots : goal.invariant-slots
invariant-slots l = record {
  within : l.slot ≤ 1024;
  rest : l.slot < 1024 → IsRest l.above l.key l.slot l.rest;
  count : l.len ≡ ones_from l.words l.base l.slot;
  before : SameBefore l.at l.fn.out l.out;
  members : (v : ℕ) → v < 65536 → in_array l.out l.at l.len v ≡ (nat_lt v (64 * l.slot) && stands_in l.words (65536 * l.key + v));
  below : (i : ℕ) → i < l.len → u16_at l.out (l.at + 2 * i) < 64 * l.slot;
  ascending : (i : ℕ) → i + 1 < l.len → u16_at l.out (l.at + 2 * i) < u16_at l.out (l.at + 2 * (i + 1));
}

abbrev pub decreases-slots : goal.decreases-slots
decreases-slots l = 1024 - l.slot
