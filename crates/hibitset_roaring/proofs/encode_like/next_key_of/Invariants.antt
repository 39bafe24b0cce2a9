use Rattle.std.proofs.Common.{◌≡◌, ℕ, ◌-◌, ◌<◌, ◌≤◌}
use Rattle.hibitset_roaring.specs.Sources.{words_of}
use Rattle.hibitset_roaring.specs.Words.{ones_under}
use Rattle.hibitset_roaring.proofs.encode_like.next_key_of.Given as goal

-- there are no members under the keys from the first on before this one
abbrev pub invariant-keys : goal.invariant-keys
invariant-keys g l = record {
  order : l.from ≤ l.key;
  within : l.key ≤ 16384;
  skips : (k : ℕ) → l.from ≤ k → k < l.key → ones_under (words_of (g.T.BitSetLike.word l.set)) k ≡ 0;
}

abbrev pub decreases-keys : goal.decreases-keys
decreases-keys g l = 16384 - l.key
