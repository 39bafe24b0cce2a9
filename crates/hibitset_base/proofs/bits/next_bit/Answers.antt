use Rattle.std.proofs.Common.{arith}
use Rattle.hibitset_base.proofs.BitLemmas.{none_left, next_within, next_found, next_skips}
use Rattle.hibitset_base.proofs.bits.next_bit.Goals as goal

pub returns-then-rest-eq0-clause-skips : goal.returns-then-rest-eq0-clause-skips
returns-then-rest-eq0-clause-skips c = λ b order below. none_left c.args.word c.args.from c.if-rest-eq0.true b order

pub returns-else-rest-eq0-clause-within : goal.returns-else-rest-eq0-clause-within
returns-else-rest-eq0-clause-within c =
    let some = c.if-rest-eq0.false in
    let n = next_within c.args.word c.args.from (omega (arith, c.ranges.word)) (omega (arith, some)) in
    omega (arith, n)

pub returns-else-rest-eq0-clause-skips : goal.returns-else-rest-eq0-clause-skips
returns-else-rest-eq0-clause-skips c =
    let some = c.if-rest-eq0.false in
    next_skips c.args.word c.args.from (omega (arith, c.ranges.word)) (omega (arith, some))

pub returns-else-rest-eq0-clause-found : goal.returns-else-rest-eq0-clause-found
returns-else-rest-eq0-clause-found c = λ _.
    let some = c.if-rest-eq0.false in
    next_found c.args.word c.args.from (omega (arith, c.ranges.word)) (omega (arith, some))
