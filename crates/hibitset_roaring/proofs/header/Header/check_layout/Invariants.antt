use Rattle.std.proofs.Common.{◌≡◌, ℕ, ◌+◌, ◌*◌, ◌<◌, ◌≤◌, true, length}
use Rattle.hibitset_roaring.specs.Numbers.{u32_at}
use Rattle.hibitset_roaring.specs.Format.{has_offsets, offsets_at, container_at}
use Rattle.hibitset_roaring.proofs.header.Header.check_layout.Given as goal

-- so many containers lie where the offsets say
abbrev pub invariant-containers : goal.invariant-containers
invariant-containers l = record {
  at_is : l.at ≡ container_at l.bytes l.k;
  within : l.at ≤ length l.bytes;
  offsets : has_offsets l.bytes ≡ true → (i : ℕ) → i < l.k → u32_at l.bytes (offsets_at l.bytes + 4 * i) ≡ container_at l.bytes i;
}
