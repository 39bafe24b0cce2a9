use Rattle.std.proofs.Common.{◌≡◌, ℕ, ◌+◌, ◌*◌, ◌<◌, ◌≤◌, ◌||◌}
use Rattle.std.specs.Int.{bit_at}
use Rattle.std.specs.Int.RustNames.{count_ones}
use Rattle.hibitset_roaring.specs.Numbers.{u16_at}
use Rattle.hibitset_roaring.specs.Format.{in_array}
use Rattle.hibitset_roaring.specs.Streams.{SameBefore}
use Rattle.hibitset_roaring.specs.Words.{in_word}
use Rattle.hibitset_roaring.proofs.array.write_word.Given as goal

-- what is written or still to be written is the same, and what is written is less than the rest
abbrev pub invariant-bits : goal.invariant-bits
invariant-bits l = record {
  order : l.len ≤ l.end;
  count : l.end + count_ones l.rest ≡ l.len + count_ones l.word;
  before : SameBefore (l.at + 2 * l.len) l.fn.out l.out;
  members : (v : ℕ) → (in_array l.out l.at l.end v || in_word l.first l.rest v) ≡ (in_array l.fn.out l.at l.len v || in_word l.first l.word v);
  low : (i : ℕ) → l.len ≤ i → i < l.end → l.first ≤ u16_at l.out (l.at + 2 * i);
  high : (i : ℕ) → l.len ≤ i → i < l.end → u16_at l.out (l.at + 2 * i) < l.first + 64;
  gap : (i b : ℕ) → l.len ≤ i → i < l.end → b < 64 → bit_at l.rest b ≡ 1 → u16_at l.out (l.at + 2 * i) < l.first + b;
  ascending : (i : ℕ) → l.len ≤ i → i + 1 < l.end → u16_at l.out (l.at + 2 * i) < u16_at l.out (l.at + 2 * (i + 1));
}

abbrev pub decreases-bits : goal.decreases-bits
decreases-bits l = l.rest
