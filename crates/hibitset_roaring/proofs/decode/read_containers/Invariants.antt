use Rattle.std.proofs.Common.{◌≡◌, ℕ, ◌+◌, ◌*◌, ◌/◌, ◌%◌, ◌<◌, ◌≤◌, ◌==◌, ◌&&◌}
use Rattle.hibitset_roaring.specs.Numbers.{any_below}
use Rattle.hibitset_roaring.specs.Format.{key_of, container_at, in_container, IsContainer}
use Rattle.hibitset_roaring.proofs.decode.read_containers.Given as goal

-- so many containers are well formed and taken, and the words end with the last of them
abbrev pub invariant-containers : goal.invariant-containers
invariant-containers g l = record {
  at_is : l.at ≡ container_at l.bytes l.k;
  containers : (i : ℕ) → i < l.k → IsContainer l.bytes i;
  members : (i : ℕ) → g.S.ContainerSink.holds l.sink i ≡ any_below l.k (λ k. (key_of l.bytes k == i / 65536) && in_container l.bytes k (i % 65536));
  none : l.k ≡ 0 → g.S.ContainerSink.words_len l.sink ≡ 0;
  last : (i : ℕ) → i + 1 ≡ l.k → g.S.ContainerSink.words_len l.sink ≤ 1024 * (key_of l.bytes i + 1);
}
