use Rattle.std.proofs.Common.{arith}
use Rattle.hibitset_base.specs.Sets.{bit_of}
use Rattle.hibitset_c.proofs.BulkLemmas.{fills_map}
use Rattle.hibitset_c.proofs.lookups.contains_each.Goals as goal

pub returns : goal.returns
returns g c =
    let now = c.loop-slot.invariant in
    fills_map (λ i. bit_of (g.T.BitSetLike.holds c.args.set.now i)) c.args.indices.now c.args.found.now c.loop-slot.found c.loop-slot.slot c.min-count.result (omega arith) c.min-count.ensures now.written now.rest now.length_stays
