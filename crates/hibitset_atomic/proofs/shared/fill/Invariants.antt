use Rattle.std.proofs.Common.{◌≡◌, ℕ, ◌<◌, ◌≤◌, slice_index}
use Rattle.std.specs.Slots.{slots_items, slots_len, IsFull}
use Rattle.hibitset_atomic.specs.AtomicBitSet.{word_of}
use Rattle.hibitset_atomic.specs.Blocks.{HasRoom}
use Rattle.hibitset_atomic.proofs.shared.fill.Given as goal
use Rattle.hibitset_atomic.specs.declared.shared.layout.TheConstants.{ROW_WORDS}

abbrev pub invariant-loop-place : goal.invariant-loop-place
invariant-loop-place l = record {
  closed : (slots_len l.closed.words ≡ ROW_WORDS) × IsFull l.closed.words;
  filled : (p : ℕ) → p < l.place → word_of l.set 0 p ≡ slice_index (slots_items l.closed.words) p;
  empty : (p : ℕ) → l.place ≤ p → word_of l.set 0 p ≡ 0;
  room : HasRoom l.set.layers.layer0;
}
