use Rattle.std.proofs.Common.{◌≡◌, ℕ, ◌+◌, ◌*◌, ◌<◌}
use Rattle.hibitset_roaring.specs.Numbers.{u16_at}
use Rattle.hibitset_roaring.specs.Format.{in_array}
use Rattle.hibitset_roaring.specs.Words.{Adds}
use Rattle.hibitset_roaring.proofs.decode_container.read_array.Given as goal

-- the numbers so far ascend, and are put in
abbrev pub invariant-numbers : goal.invariant-numbers
invariant-numbers l = record {
  ascending : (i : ℕ) → i + 1 < l.j → u16_at l.bytes (l.at + 2 * i) < u16_at l.bytes (l.at + 2 * (i + 1));
  none : l.j ≡ 0 → l.next ≡ 0;
  last : (i : ℕ) → i + 1 ≡ l.j → u16_at l.bytes (l.at + 2 * i) + 1 ≡ l.next;
  members : Adds l.key (in_array l.bytes l.at l.j) l.fn.words l.words;
}
