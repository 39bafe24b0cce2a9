use Rattle.std.proofs.Common.{◌≡◌, ℕ, ◌+◌, ◌*◌, ◌<◌, get_or}
use Rattle.hibitset_roaring.specs.Numbers.{u16_at}
use Rattle.hibitset_roaring.specs.Streams.{SameBefore}
use Rattle.hibitset_roaring.proofs.encode.write_fields.Given as goal

-- the first k keys are written
abbrev pub invariant-keys : goal.invariant-keys
invariant-keys l = record {
  before : SameBefore l.at l.fn.out l.out;
  keys : (i : ℕ) → i < l.k → u16_at l.out (l.at + 4 * i) ≡ get_or l.keys i 0;
  counts : (i : ℕ) → i < l.k → u16_at l.out (l.at + 4 * i + 2) + 1 ≡ get_or l.counts i 0;
}
