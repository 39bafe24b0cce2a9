use Rattle.std.proofs.Common.{◌≡◌, ◌*◌, ◌≤◌}
use Rattle.hibitset_roaring.specs.Words.{ones_from}
use Rattle.hibitset_roaring.proofs.key_counts.count_whole.Given as goal

abbrev pub invariant-words : goal.invariant-words
invariant-words l = record {
  count : l.ones ≡ ones_from l.words l.base l.j;
  few : l.ones ≤ 64 * l.j;
}
