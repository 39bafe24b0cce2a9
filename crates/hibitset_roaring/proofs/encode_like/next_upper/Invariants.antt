use Rattle.std.proofs.Common.{◌≡◌, ℕ, ◌-◌, ◌<◌, ◌≤◌}
use Rattle.hibitset_roaring.proofs.encode_like.next_upper.Given as goal

-- all words of layer 2 from the first on before this one are 0
abbrev pub invariant-words : goal.invariant-words
invariant-words g l = record {
  order : l.from ≤ l.position;
  within : l.position ≤ 4096;
  skips : (p : ℕ) → l.from ≤ p → p < l.position → g.T.BitSetLike.word l.set 2 p ≡ 0;
}

abbrev pub decreases-words : goal.decreases-words
decreases-words g l = 4096 - l.position
