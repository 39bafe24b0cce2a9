use Rattle.std.proofs.Common.{◌+◌, ◌≤◌}
use Rattle.hibitset_base.specs.Sets.{SummariesExact}
use Rattle.hibitset_base.specs.declared.util.TheConstants.{LAYERS}
use Rattle.hibitset_base.proofs.LastLemmas.{NoneSoFar}
use Rattle.hibitset_base.proofs.ends.find_last_before.Given as goal

abbrev pub invariant-layers : goal.invariant-layers
invariant-layers g l = record {
  none : NoneSoFar (g.T.BitSetLike.holds l.set) l.end l.layer;
  few : SummariesExact LAYERS (g.T.BitSetLike.word l.set) → l.reads.count ≤ l.initial.reads.count + l.layer;
}
