use Rattle.std.proofs.Common.{◌≡◌, ◌⊎◌, ℕ, ◌+◌, ◌*◌, ◌/◌, ◌<◌, ◌≤◌, ◌==◌, ◌||◌, get_or}
use Rattle.std.specs.Int.{bit_at}
use Rattle.hibitset_base.specs.Sets.{bit_of}
use Rattle.hibitset.specs.WordBits.{in_range}
use Rattle.hibitset_roaring.proofs.words.set_some.Given as goal

-- the words up to a slot have the bits of the range too, and the others are as they were
abbrev pub invariant-slots : goal.invariant-slots
invariant-slots l = record {
  done : (p b : ℕ) → l.start / 64 ≤ p → p < l.slot → b < 64 → bit_at (get_or l.words p 0) b ≡ bit_of ((bit_at (get_or l.fn.words p 0) b == 1) || in_range l.start l.end (64 * p + b));
  rest : (p : ℕ) → (p < l.start / 64) ⊎ (l.slot ≤ p) → get_or l.words p 0 ≡ get_or l.fn.words p 0;
}
