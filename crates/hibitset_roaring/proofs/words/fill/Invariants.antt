use Rattle.std.proofs.Common.{◌≡◌, ◌⊎◌, ℕ, ◌-◌, ◌^◌, ◌<◌, ◌≤◌, get_or}
use Rattle.hibitset_roaring.proofs.words.fill.Given as goal

-- all bits of the words up to a slot are set, and the other words are as they were
abbrev pub invariant-slots : goal.invariant-slots
invariant-slots l = record {
  done : (p : ℕ) → l.from ≤ p → p < l.slot → get_or l.words p 0 ≡ 2 ^ 64 - 1;
  rest : (p : ℕ) → (p < l.from) ⊎ (l.slot ≤ p) → get_or l.words p 0 ≡ get_or l.fn.words p 0;
}
