use Rattle.std.proofs.Common.{◌≡◌, ℕ, ◌+◌, ◌<◌, ◌≤◌}
use Rattle.hibitset_roaring.specs.Format.{key_of}
use Rattle.hibitset_roaring.proofs.header.Header.check_keys.Given as goal

-- the keys so far ascend
abbrev pub invariant-keys : goal.invariant-keys
invariant-keys l = record {
  ascending : (i : ℕ) → i + 1 < l.k → key_of l.bytes i < key_of l.bytes (i + 1);
  none : l.k ≡ 0 → l.next ≡ 0;
  last : (i : ℕ) → i + 1 ≡ l.k → key_of l.bytes i + 1 ≡ l.next;
  below : (i : ℕ) → i < l.k → key_of l.bytes i < l.next;
  few : l.next ≤ l.end;
}
