use Rattle.std.proofs.Common.{ℕ, ◌<◌, ◌^◌, arith}
use Rattle.std.specs.Int.RustNames.{count_ones}
use Rattle.std.proofs.lemmas.Nat.{ones_le_self}
use Rattle.hibitset_base.proofs.MiddleBitLemmas.{ones-without_first, highest-without_first, halving}
use Rattle.hibitset_base.proofs.util.average_ones.Goals as goal

pub lower-preserved : goal.lower-preserved
lower-preserved c =
    let upper : ℕ = c.lower.upper in
    let below : c.lower.counter < count_ones c.args.n = c.lower-test.true in
    let few = ones_le_self upper in
    let count = c.lower.invariant.0 in
    let some : 0 < upper = omega arith in
    let fits : upper < 2 ^ 64 = omega arith in
    let fewer = ones-without_first upper some fits in
    (omega (arith, count, fewer), highest-without_first upper some fits c.args.n c.lower.invariant.1)

pub returns : goal.returns
returns c =
    let upper : ℕ = c.lower.upper in
    let few = ones_le_self upper in
    let count = c.lower.invariant.0 in
    let ended = c.lower-test.false in
    let split = c.if-half-eq0.false in
    let some : 0 < upper = omega arith in
    let fits : upper < 2 ^ 64 = omega arith in
    (omega arith, halving upper some fits c.args.n c.lower.invariant.1 (omega arith))
