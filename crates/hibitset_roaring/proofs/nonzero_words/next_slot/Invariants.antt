use Rattle.std.proofs.Common.{◌≡◌, ℕ, ◌+◌, ◌-◌, ◌*◌, ◌<◌, ◌≤◌, List, get_or}
use Rattle.hibitset_roaring.specs.Words.{AreSummaries}
use Rattle.hibitset_roaring.proofs.nonzero_words.next_slot.Given as goal

-- all words from the first slot on before this one are 0
abbrev pub invariant-slots : goal.invariant-slots
invariant-slots l = record {
  order : l.from ≤ l.slot;
  within : l.slot ≤ 1024;
  skips : (words : List ℕ) → AreSummaries words l.above → (q : ℕ) → l.from ≤ q → q < l.slot → get_or words (1024 * l.key + q) 0 ≡ 0;
}

abbrev pub decreases-slots : goal.decreases-slots
decreases-slots l = 1024 - l.slot
