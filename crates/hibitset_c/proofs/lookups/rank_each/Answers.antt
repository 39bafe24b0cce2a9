use Rattle.std.proofs.Common.{length, min, arith}
use Rattle.hibitset_base.specs.Members.{members_below}
use Rattle.hibitset_base.specs.declared.util.TheConstants.{MAX_EID}
use Rattle.hibitset_c.proofs.BulkLemmas.{fills_map}
use Rattle.hibitset_c.proofs.lookups.rank_each.Goals as goal

pub returns : goal.returns
returns g c =
    let now = c.loop-slot.invariant in
    fills_map (λ end. length (members_below (min end MAX_EID) (g.T.BitSetLike.holds c.args.set.now))) c.args.ends.now c.args.ranks.now c.loop-slot.ranks c.loop-slot.slot c.min-count.result (omega arith) c.min-count.ensures now.written now.rest now.length_stays
