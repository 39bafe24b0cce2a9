use Rattle.hibitset_atomic.proofs.SparedLemmas.{spared-exchange}
use Rattle.hibitset_atomic.proofs.shared.types.SharedBitSet.exchange.Goals as goal

pub returns-clause-spares_shared : goal.returns-clause-spares_shared
returns-clause-spares_shared c =
    let grew0 = c.fetch_or_layer0-there.ensures.same.2 in
    let grew1 = c.set_summary.ensures.same.2 in
    let grew2 = c.set_summary-2.ensures.same.2 in
    spared-exchange c.args.self.now c.args.seat.now _ c.args.id c.fetch_or_layer0-there.new.pass.me.0 c.set_summary.new.pass.me.0 c.set_summary-2.new.pass.me.0
    c.requires.belongs c.requires.new.0 c.requires.new.1 (grew0.1, grew0.3) (grew1.1, grew1.3) (grew2.1, grew2.3) c.fetch_or_layer0-there.ensures.counts.1
    c.set_summary.ensures.counts.1 c.set_summary-2.ensures.counts.1 c.set_summary-3.ensures.counts.1
    c.set_summary.ensures.spared c.set_summary-2.ensures.spared c.set_summary-3.ensures.spared
