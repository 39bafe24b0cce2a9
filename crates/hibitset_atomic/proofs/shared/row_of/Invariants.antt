use Rattle.std.proofs.Common.{◌≡◌, ℕ, ◌<◌, slice_index, length}
use Rattle.hibitset_atomic.specs.AtomicBitSet.{word_of}
use Rattle.hibitset_atomic.specs.Row.{word_in_row}
use Rattle.hibitset_atomic.proofs.shared.row_of.Given as goal

abbrev pub invariant-loop-place : goal.invariant-loop-place
invariant-loop-place l = record {
  long : length l.row.items ≡ l.place;
  words : (p : ℕ) → p < l.place → slice_index l.row.items p ≡ word_in_row (word_of l.set) p;
}
