use Rattle.std.proofs.Common.{◌≡◌, ℕ, ◌<◌, ◌≤◌, get_or, length, vec_capacity}
use Rattle.hibitset_atomic.proofs.blocks.zero_block.Given as goal

abbrev pub invariant-loop-i : goal.invariant-loop-i
invariant-loop-i l = record {
  length : length l.words.items ≡ length l.fn.words.items;
  inside : (p : ℕ) → l.fn.start ≤ p → p < l.i → get_or l.words.items p 0 ≡ 0;
  before : (p : ℕ) → p < l.fn.start → get_or l.words.items p 0 ≡ get_or l.fn.words.items p 0;
  after : (p : ℕ) → l.i ≤ p → get_or l.words.items p 0 ≡ get_or l.fn.words.items p 0;
  room : vec_capacity l.words ≡ vec_capacity l.fn.words;
}
