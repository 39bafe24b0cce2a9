use Rattle.std.proofs.Common.{◌≡◌, ◌-◌}
use Rattle.hibitset_base.specs.declared.util.TheConstants.{LAYERS}
use Rattle.hibitset_base.proofs.SkipLemmas.{Reaches}
use Rattle.hibitset_base.proofs.iter_from.tails_over.Given as goal

abbrev pub invariant-layers : goal.invariant-layers
invariant-layers g l = record {
  reads : l.reads.count ≡ l.depth;
  reaches : Reaches LAYERS (g.T.BitSetLike.word l.set) l.from (LAYERS - l.depth) l.depth l.masks l.fn.prefixes;
}
