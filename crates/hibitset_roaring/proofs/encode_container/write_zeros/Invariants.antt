use Rattle.std.proofs.Common.{◌≡◌, ℕ, ◌+◌, ◌*◌, ◌<◌}
use Rattle.hibitset_roaring.specs.Numbers.{u64_at}
use Rattle.hibitset_roaring.specs.Streams.{SameBefore}
use Rattle.hibitset_roaring.proofs.encode_container.write_zeros.Given as goal

-- so many words are written
abbrev pub invariant-zeros : goal.invariant-zeros
invariant-zeros l = record {
  before : SameBefore l.at l.fn.out l.out;
  same : (q : ℕ) → q < l.j → u64_at l.out (l.at + 8 * q) ≡ 0;
}
