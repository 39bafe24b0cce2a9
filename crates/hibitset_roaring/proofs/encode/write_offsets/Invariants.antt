use Rattle.std.proofs.Common.{◌≡◌, ℕ, ◌+◌, ◌*◌, ◌<◌}
use Rattle.hibitset_roaring.specs.Numbers.{u32_at}
use Rattle.hibitset_roaring.specs.Streams.{SameBefore}
use Rattle.hibitset_roaring.specs.Streams.{start_from}
use Rattle.hibitset_roaring.proofs.encode.write_offsets.Given as goal

-- the first k offsets are written
abbrev pub invariant-offsets : goal.invariant-offsets
invariant-offsets l = record {
  start_is : l.start ≡ start_from l.first l.counts l.runs l.k;
  before : SameBefore l.at l.fn.out l.out;
  offsets : (i : ℕ) → i < l.k → u32_at l.out (l.at + 4 * i) ≡ start_from l.first l.counts l.runs i;
}
