use Rattle.hibitset_atomic.proofs.SparedLemmas.{report_known, spared-still, spared-after}
use Rattle.hibitset_atomic.proofs.shared.types.SharedBitSet.add_atomic.Goals as goal

pub returns-clause-not_reported : goal.returns-clause-not_reported
returns-clause-not_reported c _ reported = (c.contains.ensures.if_false c.if-contains.false).1 (c.contains.ensures.keeps_known c.args.id (report_known c.args.self.now c.args.seat.now c.args.id c.requires.belongs c.requires.id reported))

pub returns-then-contains-clause-spares_shared : goal.returns-then-contains-clause-spares_shared
returns-then-contains-clause-spares_shared c = spared-still c.args.self.now c.args.seat.now c.contains.new.seat c.args.id c.contains.ensures.steps.1

pub returns-clause-spares_shared : goal.returns-clause-spares_shared
returns-clause-spares_shared c = spared-after c.args.self.now c.args.seat.now c.contains.new.seat c.exchange.new.seat c.args.id c.contains.ensures.steps.1 c.contains.ensures.keeps_known c.exchange.ensures.spares_shared
