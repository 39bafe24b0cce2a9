use Rattle.std.proofs.Common.{◌+◌, subst, arith}
use Rattle.hibitset_atomic.specs.Rule.{Gap}
use Rattle.hibitset_atomic.proofs.SparedLemmas.{spared-gap, spared-none}
use Rattle.hibitset_atomic.proofs.shared.types.SharedBitSet.set_summary.Goals as goal

pub returns-then-not-load_bit-clause-spared : goal.returns-then-not-load_bit-clause-spared
returns-then-not-load_bit-clause-spared c =
    let grew = c.load_bit.ensures.same.2 in
    spared-gap c.args.id (c.args.layer + 1) c.args.pass.now.me.0 c.load_bit.new.pass.me.0 c.fetch_or_summary.new.pass.me.0 (grew.1, grew.3) (omega (arith, c.requires.layer))
    (subst (λ mark. Gap c.load_bit.new.pass.me.0 mark) c.mark_of.ensures.mark (c.load_bit.ensures.gap c.if-not-load_bit.true))

pub returns-else-not-load_bit-clause-spared : goal.returns-else-not-load_bit-clause-spared
returns-else-not-load_bit-clause-spared c = spared-none c.args.id (c.args.layer + 1) c.args.pass.now.me.0 c.load_bit.new.pass.me.0 c.load_bit.ensures.counts.1
