use Rattle.std.proofs.Common.{◌≡◌, length}
use Rattle.hibitset_roaring.specs.Streams.{start_from, first_after}
use Rattle.hibitset_roaring.proofs.encode.len_of.Given as goal

abbrev pub invariant-counts : goal.invariant-counts
invariant-counts l = l.at ≡ start_from (first_after l.some (length l.counts)) l.counts l.runs l.k
